-- The fields of the pairs so far have been added.
use Rattle.std.proofs.Common.{◌≡◌, ◌++◌, [], flat_map, take}
use Rattle.csv.specs.Records.{fields_of, partial_of}
use Rattle.cm_script.specs.Reports.{pair_fields}
use Rattle.cm_script.proofs.text.push_pairs.Given as goal

abbrev pub invariant-loop-pair : goal.invariant-loop-pair
invariant-loop-pair l = record {
  fields : fields_of l.row ≡ fields_of l.initial.row ++ flat_map pair_fields (take l.pair-index l.pairs);
  whole : partial_of l.row ≡ [];
}
