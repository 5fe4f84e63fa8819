-- The parts of a change, one after the other.
use Rattle.std.proofs.Common.{ℕ, Ok, Err, ap, subst}
use Rattle.std.specs.Prelude.{IsErr}
use Rattle.std.specs.declared.result.Result.{Result}
use Rattle.cm_geo.specs.declared.geo.Geo.{Geo}
use Rattle.cm_plain.specs.Changes.{Change}
use Rattle.cm_words.specs.Memory.{MemSeen}
use Rattle.cm_words.proofs.CallSequences.{done_by, ends_err, then_call, then_err}
use Rattle.cm_segment.specs.Phases.{Advances, HasAdvanced, IsAfter, IsTornFor, Phase, Reaches}
use Rattle.cm_segment.proofs.Phases.{LeadsTo, call_as, reaches_then, reaches_weaker}

-- the first part came to its phase
pub begun : {M T E : Type 0} {seen : M → MemSeen} {rest : M → M → Type 0} {geo : Geo} {change : Change} {phase : Phase} {a b : M} {value : T}
    → Advances {T = T} {E = E} seen rest geo change phase a b (Ok value) → HasAdvanced seen rest geo change phase a b
begun {seen} {rest} {geo} {change} {phase} {a} {b} {value} part =
    done_by seen rest (Reaches geo change phase) (Reaches geo change (IsTornFor geo change)) a b value part

-- or an event of it died
pub failed_first : {M T U E F : Type 0} {seen : M → MemSeen} {rest : M → M → Type 0} {geo : Geo} {change : Change} {first phase : Phase} {a b : M} {error : E}
    {result : Result U F}
    → IsErr result → Advances {T = T} seen rest geo change first a b (Err error) → Advances seen rest geo change phase a b result
failed_first {T} {seen} {rest} {geo} {change} {first} {phase} {a} {b} {error} {result} err part =
    ends_err {T = T} seen rest (Reaches geo change first) (Reaches geo change (IsTornFor geo change)) (Reaches geo change phase)
    (Reaches geo change (IsTornFor geo change)) a b error result err part (λ torn. torn)

-- after it the next one ended, as it may
pub goes_on : {M T E : Type 0} {seen : M → MemSeen} {rest : M → M → Type 0} {geo : Geo} {change : Change} {first phase : Phase} {a b c : M}
    {result : Result T E}
    → ((a b c : M) → rest a b → rest b c → rest a c) → HasAdvanced seen rest geo change first a b → Advances seen rest geo change phase b c result
    → Advances seen rest geo change phase a c result
goes_on {seen} {rest} {geo} {change} {first} {phase} {a} {b} {c} {result} on so_far part =
    then_call seen rest (Reaches geo change first) (Reaches geo change phase) (Reaches geo change (IsTornFor geo change)) (Reaches geo change phase)
    (Reaches geo change (IsTornFor geo change)) a b c result
    (on a b c) so_far part (reaches_then (seen a) (seen b) (seen c) geo change first phase)
    (reaches_then (seen a) (seen b) (seen c) geo change first (IsTornFor geo change))

-- or it came to its phase
pub gone_on : {M T E : Type 0} {seen : M → MemSeen} {rest : M → M → Type 0} {geo : Geo} {change : Change} {first phase : Phase} {a b c : M} {value : T}
    → ((a b c : M) → rest a b → rest b c → rest a c) → HasAdvanced seen rest geo change first a b
    → Advances {T = T} {E = E} seen rest geo change phase b c (Ok value) → HasAdvanced seen rest geo change phase a c
gone_on {T} {E} {value} on so_far part = begun (goes_on {T = T} {E = E} {result = Ok value} on so_far part)

-- or an event of it died
pub failed_on : {M T U E F : Type 0} {seen : M → MemSeen} {rest : M → M → Type 0} {geo : Geo} {change : Change} {first next phase : Phase} {a b c : M}
    {error : E} {result : Result U F}
    → ((a b c : M) → rest a b → rest b c → rest a c) → IsErr result → HasAdvanced seen rest geo change first a b
    → Advances {T = T} seen rest geo change next b c (Err error) → Advances seen rest geo change phase a c result
failed_on {T} {seen} {rest} {geo} {change} {first} {next} {phase} {a} {b} {c} {error} {result} on err so_far part =
    then_err {T = T} seen rest (Reaches geo change first) (Reaches geo change next) (Reaches geo change (IsTornFor geo change)) (Reaches geo change phase)
    (Reaches geo change (IsTornFor geo change)) a b c error result err
    (on a b c) so_far part (reaches_then (seen a) (seen b) (seen c) geo change first (IsTornFor geo change))

-- after the last one the words rest for the state after the change
ends : (a b : MemSeen) (geo : Geo) (change : Change) (phase : Phase) → Reaches geo change phase a b
    → ((segment : ℕ) → LeadsTo geo segment change phase (IsAfter geo segment change) (λ words. words))
    → Reaches geo change (IsAfter geo a.setting.segment change) a b
ends a b geo change phase here leads =
    subst (λ (segment : ℕ). Reaches geo change (IsAfter geo segment change) a b) (ap (λ s. s.segment) here.from.setting)
    (reaches_weaker a b geo change phase (IsAfter geo b.setting.segment change) here (leads b.setting.segment))

pub gone_to_end : {M T E : Type 0} {seen : M → MemSeen} {rest : M → M → Type 0} {geo : Geo} {change : Change} {first phase : Phase} {a b c : M}
    {result : Result T E}
    → ((a b c : M) → rest a b → rest b c → rest a c) → HasAdvanced seen rest geo change first a b → Advances seen rest geo change phase b c result
    → ((segment : ℕ) → LeadsTo geo segment change phase (IsAfter geo segment change) (λ words. words))
    → Advances seen rest geo change (IsAfter geo (seen a).setting.segment change) a c result
gone_to_end {seen} {rest} {geo} {change} {first} {phase} {a} {b} {c} {result} on so_far part leads =
    call_as seen rest (Reaches geo change phase) (Reaches geo change (IsTornFor geo change)) (Reaches geo change (IsAfter geo (seen a).setting.segment change))
    (Reaches geo change (IsTornFor geo change)) a c result
    (goes_on on so_far part) (λ here. ends (seen a) (seen c) geo change phase here leads) (λ torn. torn)
