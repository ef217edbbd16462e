-- Straight-line programs: lists of assignments to cells.
use Rattle.std.specs.Prelude.{◌≡◌, ℕ, ◌<◌, ◌≢◌, List, [], ◌∷◌, ◌++◌, map, length, Some, None, Option, slice_set}
use Rattle.std.specs.List.{slice_get}
use Rattle.refusal.specs.declared.Site.{Site}
use Rattle.grammar.specs.Members.{◌∈◌}

-- what cells hold, by their numbers; nothing where there is no cell
abbrev pub Store : Type 0 → Type 0
Store V = ℕ → Option V

-- an instance is set, in its cell, to a value that is made of what the arguments' cells hold, where that is defined
pub record Assignment (V : Type 0) : Type 0 where
  pub sets : Site
  pub target : ℕ
  pub arguments : List ℕ
  pub value : List (Option V) → Option V

module _ {V : Type 0} where
  -- the value that an assignment has over a store
  abbrev pub outcome : Store V → Assignment V → Option V
  outcome store a = a.value (map store a.arguments)

  -- the value over the store is defined, and it is what the target holds
  pub record Fulfilled (store : Store V) (a : Assignment V) : Type 0 where
    pub value : V
    pub defined : outcome store a ≡ Some value
    pub held : store a.target ≡ Some value

  abbrev pub AllFulfilled : Store V → List (Assignment V) → Type 0
  AllFulfilled store program = (a : Assignment V) → a ∈ program → Fulfilled store a

  -- each assignment in turn is defined and sets its target, which leads from the cells s to the cells t
  abbrev pub Executes : List (Assignment V) → List V → List V → Type 0
  Executes [] s t = t ≡ s
  Executes (a ∷ rest) s t = (v : V) × (outcome (slice_get s) a ≡ Some v) × Executes rest (slice_set s a.target v) t

  -- Execution up to the first assignment that is undefined: the cells that it leaves, and the instance that has no value, if any.
  abbrev pub execution : List (Assignment V) → List V → List V × Option Site
  execution [] cells = (cells, None)
  execution (a ∷ rest) cells =
      elim (outcome (slice_get cells) a) [ None ↦ (cells, Some a.sets) | Some v ↦ execution rest (slice_set cells a.target v) ]

  -- an assignment reads none of the targets from itself on, and none behind it has its target
  pub record Leads (a : Assignment V) (rest : List (Assignment V)) : Type 0 where
    pub own : (c : ℕ) → c ∈ a.arguments → c ≢ a.target
    pub reads : (b : Assignment V) → b ∈ rest → (c : ℕ) → c ∈ a.arguments → c ≢ b.target
    pub apart : (b : Assignment V) → b ∈ rest → a.target ≢ b.target

  -- nothing is read before it is set, and nothing is set twice
  abbrev pub Ordered : List (Assignment V) → Type 0
  Ordered [] = Unit {0}
  Ordered (a ∷ rest) = Leads a rest × Ordered rest

  -- the cell is the target of none
  abbrev pub Untouched : List (Assignment V) → ℕ → Type 0
  Untouched program c = (b : Assignment V) → b ∈ program → c ≢ b.target

  -- every target is one of so many cells
  abbrev pub Within : List (Assignment V) → ℕ → Type 0
  Within program count = (b : Assignment V) → b ∈ program → b.target < count

  -- Where the execution stopped: what was executed, and the assignment that was undefined, if any, with what stood behind it.
  pub record Stopped (program : List (Assignment V)) (s t : List V) (fault : Option Site) : Type 0 where
    pub done : List (Assignment V)
    pub left : List (Assignment V)
    pub split : program ≡ done ++ left
    pub executes : Executes done s t
    pub whole : fault ≡ None → left ≡ []
    pub stops : (i : Site) → fault ≡ Some i
        → (a : Assignment V) × (rest : List (Assignment V)) × (left ≡ a ∷ rest) × (a.sets ≡ i) × (outcome (slice_get t) a ≡ None)

-- executing the assignments fulfils each of them, and changes no other cell
abbrev pub FulfilledByExecution : {V : Type 0} → List (Assignment V) → Type 0
FulfilledByExecution program = (s t : List _) → Within program (length s) → Executes program s t
    → AllFulfilled (slice_get t) program × ((c : ℕ) → Untouched program c → slice_get t c ≡ slice_get s c) × (length t ≡ length s)

-- cells that fulfil all the assignments are determined by those that are no target
abbrev pub DeterminedByTheRest : {V : Type 0} → List (Assignment V) → Type 0
DeterminedByTheRest program = (s t : Store _) → AllFulfilled s program → AllFulfilled t program
    → ((c : ℕ) → Untouched program c → s c ≡ t c) → (c : ℕ) → s c ≡ t c

-- Executing an ordered list of assignments fulfils each of them.
abbrev pub ExecutionFulfils : Type 0 → Type 0
ExecutionFulfils V = (program : List (Assignment V)) → Ordered program → FulfilledByExecution program

-- What fulfils an ordered list of assignments is unique.
abbrev pub FulfilmentIsUnique : Type 0 → Type 0
FulfilmentIsUnique V = (program : List (Assignment V)) → Ordered program → DeterminedByTheRest program

-- The same holds of every part of an ordered list that begins it.
abbrev pub BeginningsLikewise : Type 0 → Type 0
BeginningsLikewise V = (done left : List (Assignment V)) → Ordered (done ++ left)
    → Ordered done × FulfilledByExecution done × DeterminedByTheRest done

-- Execution stops at the first assignment that is undefined; those before it keep their effect.
abbrev pub ExecutionStopsAtTheUndefined : Type 0 → Type 0
ExecutionStopsAtTheUndefined V = (program : List (Assignment V)) (s : List V)
    → Stopped program s (execution program s).0 (execution program s).1
