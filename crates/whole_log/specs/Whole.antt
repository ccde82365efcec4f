-- What is promised of a stream that comes in pieces. Statements only.
use Rattle.std.specs.Prelude.{ℕ, ◌≡◌, List, [], ◌++◌, length}
use Rattle.stream.specs.Stream.{first_state}
use Rattle.stream.specs.declared.State.{State}
use Rattle.whole_log.specs.Log.{Log, log_of}
use Rattle.whole_log.specs.Pieces.{Reads, all, outcome}

-- with work and marks of these lengths lent, in any state, with any bytes s at hand: in whatever pieces the others come, what is printed is what all of them give
abbrev pub AnyPieces : Type 0
AnyPieces = (work marks : ℕ) (st : State) (store s : List ℕ) (ps : List (List ℕ)) (l : Log) → Reads work marks st store s ps l → l ≡ outcome work marks st store (s ++ all ps)

-- .. and any pieces are read
abbrev pub EveryReading : Type 0
EveryReading = (work marks : ℕ) (ps : List (List ℕ)) (st : State) (store s : List ℕ) → (l : Log) × Reads work marks st store s ps l

-- THE PROGRAM, from its first state, with 12,288 floats, 1,024 marks and any store of 1,024 bytes: of any pieces the log of all their bytes is printed ..
abbrev pub LogIsPrinted : Type 0
LogIsPrinted = (store : List ℕ) → length store ≡ 1024 → (ps : List (List ℕ)) → Reads 12288 16 first_state store [] ps (log_of (all ps))

-- .. and nothing else
abbrev pub NothingElse : Type 0
NothingElse = (store : List ℕ) → length store ≡ 1024 → (ps : List (List ℕ)) (l : Log) → Reads 12288 16 first_state store [] ps l → l ≡ log_of (all ps)
