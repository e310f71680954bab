-- Each call of this crate is promised: its contract, as the toolchain reads it out of the code, takes all inputs and determines the result and the last
-- values of all that was lent for writing. A statement names the call alone, so that a contract that leaves a part open is refused here.
use mathlib.Core.Path.{refl, sym, ap, ◌∙◌}
use mathlib.Core.List.{List}
use lib.Ieee.{Float}
use Rattle.counters.specs.Promised.{Promised}
use Rattle.counters.proofs.RefusalLaws.{told_same}
use Rattle.joining.specs.declared.Heard.TheVariants.{Nothing}
use Rattle.homing.specs.Receiving.{no_link}
use Rattle.receiving.specs.Listening.{HeardAnswer, heard_left, LinkAnswer, link_left}
use Rattle.looking.proofs.OutcomeLaws.{answer_and}
use Rattle.receiving.proofs.gather as Gather
use Rattle.receiving.specs.contracts.gather as GatherContract
use Rattle.receiving.proofs.take_back as TakeBack
use Rattle.receiving.specs.contracts.take_back as TakeBackContract
use Rattle.receiving.proofs.finishing.finish as Finish
use Rattle.receiving.specs.contracts.finishing.finish as FinishContract
use Rattle.receiving.proofs.listening.heard as Heard
use Rattle.receiving.specs.contracts.listening.heard as HeardContract
use Rattle.receiving.proofs.listening.link as Link
use Rattle.receiving.specs.contracts.listening.link as LinkContract

pub gather : Promised GatherContract.ended Gather.Reads.Asked Gather.Reads.Learnt
gather = record { takes_all = λ κs inputs. tt; one_answer = λ κs inputs x y v w. answer_and (λ (buffer : List Float). (tt, (tt, (buffer, tt)))) }

pub take_back : Promised TakeBackContract.ended TakeBack.Reads.Asked TakeBack.Reads.Learnt
take_back = record { takes_all = λ κs inputs. tt; one_answer = λ κs inputs x y v w. answer_and (λ (buffer : List Float). (tt, (tt, (tt, (buffer, tt))))) }

pub finish : Promised FinishContract.ended Finish.Reads.Asked Finish.Reads.Learnt
finish = record { takes_all = λ κs inputs. tt; one_answer = λ κs inputs x y v w. answer_and (λ (buffer : List Float). (tt, (tt, (tt, (buffer, tt))))) }

pub heard : Promised HeardContract.ended Heard.Reads.Asked Heard.Reads.Learnt
heard = record { takes_all = λ κs inputs. tt; one_answer = λ κs inputs x y v w p q. (told_same Nothing (λ (z : HeardAnswer). z.number) (λ (z : HeardAnswer). z.heard) heard_left (λ r. refl) (λ r. refl) p q (ap (λ (z : HeardAnswer). z.at) (p ∙ sym q)), refl) }

pub link : Promised LinkContract.ended Link.Reads.Asked Link.Reads.Learnt
link = record { takes_all = λ κs inputs. tt; one_answer = λ κs inputs x y v w p q. (told_same no_link (λ (z : LinkAnswer). z.number) (λ (z : LinkAnswer). z.link) link_left (λ r. refl) (λ r. refl) p q (ap (λ (z : LinkAnswer). z.at) (p ∙ sym q)), refl) }
