-- Elements of lists, by where they stand.
use Rattle.std.proofs.Common.{◌≡◌, ℕ, ◌<◌, List, [], ◌∷◌, length, get_or, slice_get, Some, refl, arith, map, sym, ap, ◌∙◌, subst}
use Rattle.std.proofs.lemmas.List.{get_or_default, get_or-map, length-map}
use Rattle.std.proofs.lemmas.Option.{slice_get_read, get_or_from_slice_get, slice_get_within}
use Rattle.std.specs.List.{zip}
use Rattle.std.proofs.lemmas.Slice.Zip.{get_or-zip, length-zip}

-- an element within a list
pub element_at : {X : Type 0} (xs : List X) (i : ℕ) → i < length xs → (x : X) × (slice_get xs i ≡ Some x)
element_at [] i inside = absurd (omega arith)
element_at (x ∷ xs) i inside =
    let y = get_or (x ∷ xs) i x in (y, slice_get_read (x ∷ xs) (length (x ∷ xs)) i y refl inside (get_or_default (x ∷ xs) i x y inside))

-- an element of a mapped list is that of the list, mapped
pub record IsMapped {X Y : Type 0} (f : X → Y) (xs : List X) (i : ℕ) (y : Y) : Type 0 where
  pub from : X
  pub there : slice_get xs i ≡ Some from
  pub is : y ≡ f from

pub mapped_at : {X Y : Type 0} (f : X → Y) (xs : List X) (i : ℕ) (y : Y) → slice_get (map f xs) i ≡ Some y → IsMapped f xs i y
mapped_at f xs i y there =
    let inside : i < length xs = subst (λ (n : ℕ). i < n) (length-map xs f) (slice_get_within (map f xs) i y there) in
    let (x, here) = element_at xs i inside in
    record {
      from = x;
      there = here;
      is = sym (get_or_from_slice_get (map f xs) i y y there) ∙ (get_or-map f xs i x y inside ∙ ap f (get_or_from_slice_get xs i x x here));
    }

pub zipped_left : {X Y : Type 0} (xs : List X) (ys : List Y) (i : ℕ) (p : X × Y) → slice_get (zip xs ys) i ≡ Some p → (slice_get xs i ≡ Some p.0) × (slice_get ys i ≡ Some p.1)
zipped_left xs ys i p there =
    let within = slice_get_within (zip xs ys) i p there in
    let long = length-zip xs ys in
    let left : i < length xs = omega arith in
    let right : i < length ys = omega arith in
    let is = sym (get_or_from_slice_get (zip xs ys) i p p there) ∙ get_or-zip xs ys i p left right in
    (slice_get_read xs (length xs) i p.0 refl left (ap (λ q. q.0) is), slice_get_read ys (length ys) i p.1 refl right (ap (λ q. q.1) is))
