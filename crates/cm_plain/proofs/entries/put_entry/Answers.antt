-- The entries without the key rise as they did.
use Rattle.cm_plain.proofs.entries.put_entry.Goals as goal

pub insert_entry-requires-clause-rising : goal.insert_entry-requires-clause-rising
insert_entry-requires-clause-rising c = rw (c.remove_key.ensures.items, c.as_slice.ensures, c.reserve.ensures.items) c.requires.rising
