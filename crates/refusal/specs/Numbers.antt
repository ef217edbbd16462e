-- The number of each refusal, and the place that it names.
use Rattle.std.specs.Prelude.{ℕ}
use Rattle.refusal.specs.declared.Place.{Place}
use Rattle.refusal.specs.declared.Place.TheVariants.{At, Instance}
use Rattle.refusal.specs.declared.Refusal.{Refusal}
use Rattle.refusal.specs.declared.Refusal.TheVariants.{TableSize, BadIndex, CountPassed, BadKind, NoSuch, BadRule, DefinedArgument, NotAdmitted, BadPlan, Unnumbered, NodeCount, BadLink, BadNode, TooDeep, NotOpened, TooFewCells, PassOpen, ForeignSlip, AllFinished, WalkEnded, NoInstance, NotFinished, Undefined, ListingTooLong, OutOfMemory}

-- the refusals are numbered from 1 to 24; want of memory is outside the list and has 0
abbrev pub number : Refusal → ℕ
number TableSize = 1
number (BadIndex holder) = 2
number (CountPassed record') = 3
number (BadKind record') = 4
number (NoSuch record') = 5
number (BadRule record') = 6
number (DefinedArgument record') = 7
number (NotAdmitted rule) = 8
number (BadPlan position) = 9
number (Unnumbered attribute) = 10
number NodeCount = 11
number (BadLink node) = 12
number (BadNode node) = 13
number (TooDeep node) = 14
number NotOpened = 15
number TooFewCells = 16
number (PassOpen pass) = 17
number (ForeignSlip pass) = 18
number (AllFinished passes) = 19
number WalkEnded = 20
number (NoInstance node) = 21
number (NotFinished attribute) = 22
number (Undefined site) = 23
number (ListingTooLong needed) = 24
number OutOfMemory = 0

-- a record, a byte, an attribute, a node or a pass by its number, the bytes needed, or an attribute of a node; 0 where a refusal has no place of its own
abbrev pub place : Refusal → Place
place TableSize = At 0
place (BadIndex holder) = At holder
place (CountPassed record') = At record'
place (BadKind record') = At record'
place (NoSuch record') = At record'
place (BadRule record') = At record'
place (DefinedArgument record') = At record'
place (NotAdmitted rule) = At rule
place (BadPlan position) = At position
place (Unnumbered attribute) = At attribute
place NodeCount = At 0
place (BadLink node) = At node
place (BadNode node) = At node
place (TooDeep node) = At node
place NotOpened = At 0
place TooFewCells = At 0
place (PassOpen pass) = At pass
place (ForeignSlip pass) = At pass
place (AllFinished passes) = At passes
place WalkEnded = At 0
place (NoInstance node) = At node
place (NotFinished attribute) = At attribute
place (Undefined site) = Instance site
place (ListingTooLong needed) = At needed
place OutOfMemory = At 0
