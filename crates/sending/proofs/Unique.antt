-- Each call of this crate is promised: its contract, as the toolchain reads it out of the code, takes all inputs and determines the result and the last
-- values of all that was lent for writing. A statement names the call alone, so that a contract that leaves a part open is refused here.
use mathlib.Core.List.{List}
use Prim.Native.Nat.{ℕ}
use Rattle.counters.specs.Promised.{Promised}
use Rattle.looking.proofs.OutcomeLaws.{answer_and}
use Rattle.sending.proofs.build as Build
use Rattle.sending.specs.contracts.build as BuildContract
use Rattle.sending.proofs.multiplex as Multiplex
use Rattle.sending.specs.contracts.multiplex as MultiplexContract
use Rattle.sending.proofs.spread as Spread
use Rattle.sending.specs.contracts.spread as SpreadContract

pub build : Promised BuildContract.ended Build.Reads.Asked Build.Reads.Learnt
build = record { takes_all = λ κs inputs. tt; one_answer = λ κs inputs x y v w. answer_and (λ (buffer : List ℕ). (tt, (tt, (tt, (buffer, tt))))) }

pub multiplex : Promised MultiplexContract.ended Multiplex.Reads.Asked Multiplex.Reads.Learnt
multiplex = record { takes_all = λ κs inputs. tt; one_answer = λ κs inputs x y v w. answer_and (λ (buffer : List ℕ). (tt, (tt, (tt, (buffer, tt))))) }

pub spread : Promised SpreadContract.ended Spread.Reads.Asked Spread.Reads.Learnt
spread = record { takes_all = λ κs inputs. tt; one_answer = λ κs inputs x y v w. answer_and (λ (buffer : List ℕ). (tt, (tt, (buffer, tt)))) }
