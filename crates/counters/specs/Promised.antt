-- What is demanded of every public call, of its contract as the toolchain reads it out of the code: what the contract asks of the inputs, and what it
-- tells of the inputs, the result and the last values of all that was lent for writing.
use Rattle.std.specs.Prelude.{◌≡◌, ℕ}
use contract.Lifetimes.{Lfts}
use Rattle.std.specs.Borrow.{Bor}
use denote.Triple.Entry.{Args, Res}
use denote.Triple.Clauses.{Ended, Lasts, AtExit, at_exit}

-- what is seen of a reference: where it points, as a block of memory and an offset in bytes, and what lies there
abbrev pub seen : {X : Type 0} → Bor X → (ℕ × ℕ) × X
seen r = (r.ref_ptr, r.now)

module _ (call : Ended) where
  abbrev pub AsksOf : Type 1
  AsksOf = (κs : Lfts call.signature.lifetimes) → Args call.signature κs → Type 0

  abbrev pub TellsOf : Type 1
  TellsOf = (κs : Lfts call.signature.lifetimes) → Args call.signature κs → Res call.signature κs → AtExit call κs → Type 0

  -- it takes all inputs
  abbrev pub TakesAll : AsksOf → Type 0
  TakesAll asks = (κs : Lfts call.signature.lifetimes) (inputs : Args call.signature κs) → asks κs inputs

  -- of two outcomes that both meet it, the one is the other up to a view of the result
  abbrev pub DeterminedAs : {X : Type 0} → ((κs : Lfts call.signature.lifetimes) → Res call.signature κs → X) → TellsOf → Type 0
  DeterminedAs view tells =
      (κs : Lfts call.signature.lifetimes) (inputs : Args call.signature κs) (x y : Res call.signature κs) (v w : Lasts call κs inputs)
      → tells κs inputs x (at_exit call κs inputs v) → tells κs inputs y (at_exit call κs inputs w) → (view κs x ≡ view κs y) × (v ≡ w)

  -- the one is the other
  abbrev pub Determined : TellsOf → Type 0
  Determined tells =
      (κs : Lfts call.signature.lifetimes) (inputs : Args call.signature κs) (x y : Res call.signature κs) (v w : Lasts call κs inputs)
      → tells κs inputs x (at_exit call κs inputs v) → tells κs inputs y (at_exit call κs inputs w) → (x ≡ y) × (v ≡ w)

  -- of the inputs, the result and those last values
  abbrev pub SaidOf : Type 1
  SaidOf = (κs : Lfts call.signature.lifetimes) (inputs : Args call.signature κs) → Res call.signature κs → Lasts call κs inputs → Type 0

  -- every outcome that meets it is as is said
  abbrev pub Always : TellsOf → SaidOf → Type 0
  Always tells said =
      (κs : Lfts call.signature.lifetimes) (inputs : Args call.signature κs) (x : Res call.signature κs) (v : Lasts call κs inputs)
      → tells κs inputs x (at_exit call κs inputs v) → said κs inputs x v

  pub record Promised (asks : AsksOf) (tells : TellsOf) : Type 0 where
    pub takes_all : TakesAll asks
    pub one_answer : Determined tells
