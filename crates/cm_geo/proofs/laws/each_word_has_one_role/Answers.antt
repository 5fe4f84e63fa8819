-- Each word of a segment has exactly one role, by the lemmas on roles.
use Rattle.cm_geo.proofs.WordRoles.{role_in_range, roles_apart, role_of}
use Rattle.cm_geo.proofs.laws.each_word_has_one_role.Goals as goal

pub returns-clause-in_range : goal.returns-clause-in_range
returns-clause-in_range c = role_in_range

pub returns-clause-apart : goal.returns-clause-apart
returns-clause-apart c = roles_apart

pub returns-clause-all : goal.returns-clause-all
returns-clause-all c = role_of
