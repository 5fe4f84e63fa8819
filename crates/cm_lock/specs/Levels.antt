-- The levels of a lock, and the lock word that counts them (own).
use Rattle.std.specs.Prelude.{ℕ, ◌≡◌, ◌+◌, ◌*◌, ◌^◌, ◌<◌, ◌≤◌, List, Option, Some, None, sum_by}
use Rattle.cm_plain.specs.Slots.{word_at}
use Rattle.cm_words.specs.declared.access.Access.{Access}
use Rattle.cm_words.specs.declared.access.Access.TheVariants.{Closed, Readable, Writable}
use Rattle.cm_lock.specs.declared.view.Level.{Level}
use Rattle.cm_lock.specs.declared.view.Level.TheVariants.{Free, Read, Update, Write}
use Rattle.cm_lock.specs.declared.view.ChangeCopy.{ChangeCopy}
use Rattle.cm_lock.specs.declared.view.HeldLevel.{HeldLevel}
use Rattle.cm_lock.specs.declared.view.View.{View}

-- what a level lets a seat do with held words
abbrev pub access_of : Level → Access
access_of Free = Closed
access_of Read = Readable
access_of Update = Readable
access_of Write = Writable

-- 1 for a level of this kind
abbrev pub reads : Level → ℕ
reads Read = 1
reads Free = 0
reads Update = 0
reads Write = 0

abbrev pub updates : Level → ℕ
updates Update = 1
updates Free = 0
updates Read = 0
updates Write = 0

abbrev pub writes : Level → ℕ
writes Write = 1
writes Free = 0
writes Read = 0
writes Update = 0

-- 1 for a plan under way
abbrev pub plans : Option ChangeCopy → ℕ
plans None = 0
plans (Some c) = 1

-- how much a level adds to the lock word
abbrev pub weight : Level → ℕ
weight level = reads level + 2 ^ 30 * updates level + 2 ^ 31 * writes level

-- over the level that a seat holds and those that it inherited: how many are of each kind, and how many plans are under way
abbrev pub reads_in : View → ℕ
reads_in v = reads v.own.level + sum_by (λ (h : HeldLevel). reads h.level) v.inherited

abbrev pub updates_in : View → ℕ
updates_in v = updates v.own.level + sum_by (λ (h : HeldLevel). updates h.level) v.inherited

abbrev pub writes_in : View → ℕ
writes_in v = writes v.own.level + sum_by (λ (h : HeldLevel). writes h.level) v.inherited

abbrev pub plans_in : View → ℕ
plans_in v = plans v.own.plan + sum_by (λ (h : HeldLevel). plans h.plan) v.inherited

-- The lock word counts the levels of all seats, dead ones too. There is at most one Update or Write, and beside a Write nobody reads
pub record CountsLevels (words : List ℕ) (views : List View) : Type 0 where
  pub lock_word : word_at words 0 ≡ sum_by reads_in views + 2 ^ 30 * sum_by updates_in views + 2 ^ 31 * sum_by writes_in views
  pub at_most_one : sum_by updates_in views + sum_by writes_in views ≤ 1
  pub no_reader : 0 < sum_by writes_in views → sum_by reads_in views ≡ 0

-- this lock word permits a seat that holds the first level to take the second
abbrev pub Permits : Level → Level → ℕ → Type 0
Permits Free Read word = word < 2 ^ 31
Permits Free Update word = word < 2 ^ 30
Permits Free Write word = word ≡ 0
Permits Update Write word = word ≡ 2 ^ 30
Permits from to word = ⊥
