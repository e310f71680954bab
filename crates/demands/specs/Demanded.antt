-- Demand 1 of one call: its contract, as the toolchain reads it out of the code, takes all inputs, has one outcome, and says what document 01 says.
use contract.Lifetimes.{Lfts}
use denote.Triple.Entry.{Res}
use denote.Triple.Clauses.{Ended}
use Rattle.counters.specs.Promised.{AsksOf, TellsOf, SaidOf, TakesAll, Determined, DeterminedAs, Always}

module _ (call : Ended) where
  pub record Demanded (asks : AsksOf call) (tells : TellsOf call) (said : SaidOf call) : Type 0 where
    pub takes_all : TakesAll call asks
    pub one_answer : Determined call tells
    pub as_said : Always call tells said

  -- the same of a call that hands a part of the caller's values back: one outcome, as far as `view` sees it
  pub record DemandedAs {X : Type 0} (view : (κs : Lfts call.signature.lifetimes) → Res call.signature κs → X) (asks : AsksOf call) (tells : TellsOf call)
      (said : SaidOf call) : Type 0 where
    pub takes_all : TakesAll call asks
    pub one_answer : DeterminedAs call view tells
    pub as_said : Always call tells said
