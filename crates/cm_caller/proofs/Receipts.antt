-- A receipt more is a call more of its segment.
use Rattle.std.proofs.Common.{◌≡◌, ◌≢◌, ◌∙◌, ℕ, suc, ◌+◌, ◌==◌, Bool, List, [], ◌∷◌, ◌++◌, cond, filter, filter_map, option_map, slice_get, Option, Some, append-nil, sym, ap, subst, arith}
use Rattle.std.specs.List.{cons_option}
use Rattle.std.proofs.lemmas.Bool.{eq-eqb, ne_eqb}
use Rattle.std.proofs.lemmas.List.Elements.{filter-append, filter_map-append}
use Rattle.cm_plain.specs.declared.receipt.Receipt.{Receipt}
use Rattle.cm_plain.specs.History.{Call}
use Rattle.cm_script.specs.declared.line.Line.{Line}
use Rattle.cm_script.specs.Answers.{call_at, calls_in, line_at}
use Rattle.cm_history.specs.Kept.{AddsCall}

-- the record of an index has the number behind it
line_there : (script : List Line) (at : ℕ) (line : Line) → slice_get script at ≡ Some line → line_at script (at + 1) ≡ Some line
line_there script at line there = let one : at + 1 ≡ suc at = omega arith in ap (line_at script) one ∙ there

-- a receipt with the operation of a record
abbrev pub call_of : Receipt → Line → Call
call_of r line = record { op = line.op; receipt = r }

call_there : (script : List Line) (at : ℕ) (line : Line) (r : Receipt) → slice_get script at ≡ Some line → r.line ≡ at + 1 → call_at script r ≡ Some (call_of r line)
call_there script at line r there line_is = ap (option_map (call_of r)) (ap (line_at script) line_is ∙ line_there script at line there)

-- the receipts of a segment
abbrev pub is_in : ℕ → Receipt → Bool
is_in segment r = r.segment == segment

calls_more : (script : List Line) (receipts : List Receipt) (r : Receipt) (segment : ℕ)
    → calls_in script (receipts ++ r ∷ []) segment ≡ calls_in script receipts segment ++ filter_map (call_at script) (cond (is_in segment r) (r ∷ []) [])
calls_more script receipts r segment =
    ap (filter_map (call_at script)) (filter-append (is_in segment) receipts (r ∷ [])) ∙ filter_map-append (call_at script) (filter (is_in segment) receipts) (filter (is_in segment) (r ∷ []))

module _ (script : List Line) (receipts : List Receipt) (at : ℕ) (line : Line) (r : Receipt) (segment : ℕ) where
  adds_here : slice_get script at ≡ Some line → r.line ≡ at + 1 → r.segment ≡ segment → calls_in script (receipts ++ r ∷ []) segment ≡ calls_in script receipts segment ++ call_of r line ∷ []
  adds_here there line_is segment_is =
      calls_more script receipts r segment
      ∙ (ap (λ (b : Bool). calls_in script receipts segment ++ filter_map (call_at script) (cond b (r ∷ []) [])) (eq-eqb r.segment segment segment_is)
      ∙ ap (λ (c : Option Call). calls_in script receipts segment ++ cons_option c []) (call_there script at line r there line_is))

  adds_no_other : r.segment ≡ segment → (other : ℕ) → other ≢ segment → calls_in script (receipts ++ r ∷ []) other ≡ calls_in script receipts other
  adds_no_other segment_is other ne =
      calls_more script receipts r other
      ∙ (ap (λ (b : Bool). calls_in script receipts other ++ filter_map (call_at script) (cond b (r ∷ []) [])) (ne_eqb r.segment other (λ same. ne (sym same ∙ segment_is)))
      ∙ append-nil (calls_in script receipts other))

  -- a receipt of a record's segment is one call more there
  pub adds_receipt : (all : List Receipt) → all ≡ receipts ++ r ∷ [] → slice_get script at ≡ Some line → r.line ≡ at + 1 → r.segment ≡ segment
      → AddsCall segment (call_of r line) (calls_in script receipts) (calls_in script all)
  adds_receipt all is there line_is segment_is =
      subst (λ (rs : List Receipt). AddsCall segment (call_of r line) (calls_in script receipts) (calls_in script rs)) (sym is)
      (record { here = adds_here there line_is segment_is; others = adds_no_other segment_is })
