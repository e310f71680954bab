-- Each call of this crate is promised: its contract, as the toolchain reads it out of the code, takes all inputs and determines the result and the last
-- values of all that was lent for writing. A statement names the call alone, so that a contract that leaves a part open is refused here.
use mathlib.Core.Path.{◌≡◌, refl, sym, ◌∙◌}
use Rattle.counters.specs.Promised.{Promised, TakesAll, DeterminedAs, seen}
use Rattle.counters.proofs.RefusalLaws.{told_alone}
use Rattle.asking.specs.Asking.{SizesAnswer, no_sizes_found, sizes_left, ChannelAnswer, no_channel_found, channel_left}
use Rattle.asking.specs.Naming.{Naming, no_name_found, naming_left}
use Rattle.asking.specs.Part.{PartAnswer, no_part_found, part_left}
use Rattle.asking.proofs.sizes as Sizes
use Rattle.asking.specs.contracts.sizes as SizesContract
use Rattle.asking.proofs.channel as Channel
use Rattle.asking.specs.contracts.channel as ChannelContract
use Rattle.asking.proofs.name.name as Name
use Rattle.asking.specs.contracts.name.name as NameContract
use Rattle.asking.proofs.part.part as Part
use Rattle.asking.specs.contracts.part.part as PartContract
use Rattle.asking.proofs.part.part_bits as PartBits
use Rattle.asking.specs.contracts.part.part_bits as PartBitsContract
use Rattle.asking.proofs.part.part_soft as PartSoft
use Rattle.asking.specs.contracts.part.part_soft as PartSoftContract

pub sizes : Promised SizesContract.ended Sizes.Reads.Asked Sizes.Reads.Learnt
sizes = record { takes_all = λ κs inputs. tt; one_answer = λ κs inputs x y v w. told_alone no_sizes_found (λ (z : SizesAnswer). z.number) (λ (z : SizesAnswer). record { channels = z.channels; slots = z.slots; contents = z.contents; capacity = z.capacity; joined = z.joined }) sizes_left (λ r. refl) (λ r. refl) }

pub channel : Promised ChannelContract.ended Channel.Reads.Asked Channel.Reads.Learnt
channel = record { takes_all = λ κs inputs. tt; one_answer = λ κs inputs x y v w. told_alone no_channel_found (λ (z : ChannelAnswer). z.number) (λ (z : ChannelAnswer). record { f = z.f; e = z.e; n = z.n; v = z.v }) channel_left (λ r. refl) (λ r. refl) }

pub name : Promised NameContract.ended Name.Reads.Asked Name.Reads.Learnt
name = record { takes_all = λ κs inputs. tt; one_answer = λ κs inputs x y v w. told_alone no_name_found (λ (z : Naming). z.number) (λ (z : Naming). record { trch = record { 0 = z.name.channel }; bit = record { 0 = z.name.bit }; copy = z.name.copy }) naming_left (λ r. refl) (λ r. refl) }

pub part : Promised PartContract.ended Part.Reads.Asked Part.Reads.Learnt
part = record { takes_all = λ κs inputs. tt; one_answer = λ κs inputs x y v w. told_alone no_part_found (λ (z : PartAnswer). z.number) (λ (z : PartAnswer). record { start = z.start; length = z.length }) part_left (λ r. refl) (λ r. refl) }

-- a part that is handed back is known by where it lies and what lies there
pair_alone : {X Y L : Type 0} {l : L} {a b c : X} {d e f : Y} → a ≡ c → b ≡ c → d ≡ f → e ≡ f → (◌≡◌ {A = X × Y} (a, d) (b, e)) × (l ≡ l)
pair_alone p q r s = (λ i. ((p ∙ sym q) i, (r ∙ sym s) i), refl)

pub part-bits : TakesAll PartBitsContract.ended PartBits.Reads.Asked × DeterminedAs PartBitsContract.ended (λ κs r. seen r) PartBits.Reads.Learnt
part-bits = (λ κs inputs. tt, λ κs inputs x y v w p q. pair_alone p.1 q.1 p.0 q.0)

pub part-soft : TakesAll PartSoftContract.ended PartSoft.Reads.Asked × DeterminedAs PartSoftContract.ended (λ κs r. seen r) PartSoft.Reads.Learnt
part-soft = (λ κs inputs. tt, λ κs inputs x y v w p q. pair_alone p.1 q.1 p.0 q.0)
