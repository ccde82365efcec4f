-- Calls as contracts admit them: what was handed in, the result, and what the lent slices hold at exit, such that the function's post-condition
-- holds. Then the alignment's calls, with the names of its parameters. Definitions only.
use Rattle.std.specs.Prelude.{ℕ, List, length, Float}
use contract.Lifetimes.{Lfts}
use denote.Triple.Clauses.{AtExit}
use borrow.Fn.Kinds.{ParamKind, ResultKind, Dens, Out, res_t, ended_of}
use Rattle.settings.specs.declared.EccConfig.{EccConfig}
use Rattle.checks.specs.Checks.{check_of}
use Rattle.pose.specs.declared.Outcome.{Outcome}
use Rattle.alignment.proofs.find_transform_ecc_euclidean.Reads as alignment
use Rattle.alignment.proofs.find_transform_ecc_euclidean.Kinds as alignment_kinds

-- a call of a function with the post-condition Post, and a result that Post admits
pub record Admitted {n : ℕ} (ps : List (ParamKind n)) (res : ResultKind n) (Post : Out n ps res) : Type 0 where
  pub κs : Lfts n
  pub handed : Dens κs ps
  pub result : (res_t res κs).Denot
  pub left : AtExit (ended_of n ps res) κs
  pub admitted : Post κs handed result left

-- a call of the alignment. What was handed in for the parameter k, counted from 0, is `handed` with k times .1, then .0; at exit it is `left` with the same
abbrev pub Alignment : Type 0
Alignment = Admitted alignment_kinds.ps alignment_kinds.r alignment.Post

module _ (c : Alignment) where
  abbrev pub template : List ℕ
  template = c.handed.0.now

  abbrev pub input : List ℕ
  input = c.handed.1.0.now

  abbrev pub w : ℕ
  w = c.handed.1.1.0

  abbrev pub h : ℕ
  h = c.handed.1.1.1.0

  abbrev pub cfg : EccConfig
  cfg = c.handed.1.1.1.1.0

  abbrev pub work : List Float
  work = c.handed.1.1.1.1.1.0.now

  abbrev pub marks : List ℕ
  marks = c.handed.1.1.1.1.1.1.0.now

  -- work and marks at exit
  abbrev pub work' : List Float
  work' = c.left.1.1.1.1.1.0.now

  abbrev pub marks' : List ℕ
  marks' = c.left.1.1.1.1.1.1.0.now

  abbrev pub outcome : Outcome
  outcome = c.result

  -- the number of the check that refuses the call; 0 where all pass
  abbrev pub check : ℕ
  check = check_of (length template) (length input) w h cfg (length work) (length marks)
