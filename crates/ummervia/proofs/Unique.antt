-- Each call of this crate is promised: its contract, as the toolchain reads it out of the code, takes all inputs and determines the result and the last
-- values of all that was lent for writing. A statement names the call alone, so that a contract that leaves a part open is refused here.
use mathlib.Core.List.{List}
use Prim.Native.Nat.{ℕ}
use lib.Ieee.{Float}
use Rattle.counters.specs.Promised.{Promised}
use Rattle.counters.specs.Lines.{Answer}
use Rattle.counters.proofs.PromiseLaws.{with_lasts}
use Rattle.looking.proofs.OutcomeLaws.{number_and}
use Rattle.asking.specs.Naming.{Naming}
use Rattle.asking.specs.Asking.{SizesAnswer}
use Rattle.asking.specs.Asking.{ChannelAnswer}
use Rattle.asking.specs.Part.{PartAnswer}
use Rattle.receiving.specs.Listening.{Numbers}
use Rattle.receiving.specs.Listening.{LinkAnswer}
use Rattle.ummervia.proofs.exports.umv_sheet_read as UmvSheetRead
use Rattle.ummervia.specs.contracts.exports.umv_sheet_read as UmvSheetReadContract
use Rattle.ummervia.proofs.exports.umv_sheet_length as UmvSheetLength
use Rattle.ummervia.specs.contracts.exports.umv_sheet_length as UmvSheetLengthContract
use Rattle.ummervia.proofs.exports.umv_sheet_write as UmvSheetWrite
use Rattle.ummervia.specs.contracts.exports.umv_sheet_write as UmvSheetWriteContract
use Rattle.ummervia.proofs.exports.umv_sizes as UmvSizes
use Rattle.ummervia.specs.contracts.exports.umv_sizes as UmvSizesContract
use Rattle.ummervia.proofs.exports.umv_channel as UmvChannel
use Rattle.ummervia.specs.contracts.exports.umv_channel as UmvChannelContract
use Rattle.ummervia.proofs.exports.umv_build as UmvBuild
use Rattle.ummervia.specs.contracts.exports.umv_build as UmvBuildContract
use Rattle.ummervia.proofs.exports.umv_multiplex as UmvMultiplex
use Rattle.ummervia.specs.contracts.exports.umv_multiplex as UmvMultiplexContract
use Rattle.ummervia.proofs.exports.umv_spread as UmvSpread
use Rattle.ummervia.specs.contracts.exports.umv_spread as UmvSpreadContract
use Rattle.ummervia.proofs.exports.umv_part as UmvPart
use Rattle.ummervia.specs.contracts.exports.umv_part as UmvPartContract
use Rattle.ummervia.proofs.exports.umv_name as UmvName
use Rattle.ummervia.specs.contracts.exports.umv_name as UmvNameContract
use Rattle.ummervia.proofs.exports_home.umv_gather as UmvGather
use Rattle.ummervia.specs.contracts.exports_home.umv_gather as UmvGatherContract
use Rattle.ummervia.proofs.exports_home.umv_take_back as UmvTakeBack
use Rattle.ummervia.specs.contracts.exports_home.umv_take_back as UmvTakeBackContract
use Rattle.ummervia.proofs.exports_home.umv_finish as UmvFinish
use Rattle.ummervia.specs.contracts.exports_home.umv_finish as UmvFinishContract
use Rattle.ummervia.proofs.exports_home.umv_heard as UmvHeard
use Rattle.ummervia.specs.contracts.exports_home.umv_heard as UmvHeardContract
use Rattle.ummervia.proofs.exports_home.umv_link as UmvLink
use Rattle.ummervia.specs.contracts.exports_home.umv_link as UmvLinkContract

pub umv_sheet_read : Promised UmvSheetReadContract.ended UmvSheetRead.Reads.Asked UmvSheetRead.Reads.Learnt
umv_sheet_read = record { takes_all = λ κs inputs. tt; one_answer = λ κs inputs x y v w. number_and (λ (buffer : List ℕ) (at : ℕ). (tt, (buffer, (at, tt)))) }

pub umv_sheet_length : Promised UmvSheetLengthContract.ended UmvSheetLength.Reads.Asked UmvSheetLength.Reads.Learnt
umv_sheet_length = record { takes_all = λ κs inputs. tt; one_answer = λ κs inputs x y v w. with_lasts (λ (z : Answer). z.number) (λ (z : Answer). (tt, (z.at, tt))) }

pub umv_sheet_write : Promised UmvSheetWriteContract.ended UmvSheetWrite.Reads.Asked UmvSheetWrite.Reads.Learnt
umv_sheet_write = record { takes_all = λ κs inputs. tt; one_answer = λ κs inputs x y v w. number_and (λ (buffer : List ℕ) (at : ℕ). (tt, (buffer, (at, tt)))) }

pub umv_sizes : Promised UmvSizesContract.ended UmvSizes.Reads.Asked UmvSizes.Reads.Learnt
umv_sizes = record { takes_all = λ κs inputs. tt; one_answer = λ κs inputs x y v w. with_lasts (λ (z : SizesAnswer). z.number) (λ (z : SizesAnswer). (tt, (z.channels, (z.slots, (z.contents, (z.capacity, (z.joined, tt))))))) }

pub umv_channel : Promised UmvChannelContract.ended UmvChannel.Reads.Asked UmvChannel.Reads.Learnt
umv_channel = record { takes_all = λ κs inputs. tt; one_answer = λ κs inputs x y v w. with_lasts (λ (z : ChannelAnswer). z.number) (λ (z : ChannelAnswer). (tt, (tt, (z.f, (z.e, (z.n, (z.v, tt))))))) }

pub umv_build : Promised UmvBuildContract.ended UmvBuild.Reads.Asked UmvBuild.Reads.Learnt
umv_build = record { takes_all = λ κs inputs. tt; one_answer = λ κs inputs x y v w. number_and (λ (buffer : List ℕ) (at : ℕ). (tt, (tt, (tt, (buffer, (at, tt)))))) }

pub umv_multiplex : Promised UmvMultiplexContract.ended UmvMultiplex.Reads.Asked UmvMultiplex.Reads.Learnt
umv_multiplex = record { takes_all = λ κs inputs. tt; one_answer = λ κs inputs x y v w. number_and (λ (buffer : List ℕ) (at : ℕ). (tt, (tt, (tt, (buffer, (at, tt)))))) }

pub umv_spread : Promised UmvSpreadContract.ended UmvSpread.Reads.Asked UmvSpread.Reads.Learnt
umv_spread = record { takes_all = λ κs inputs. tt; one_answer = λ κs inputs x y v w. number_and (λ (buffer : List ℕ) (at : ℕ). (tt, (tt, (buffer, (at, tt))))) }

pub umv_part : Promised UmvPartContract.ended UmvPart.Reads.Asked UmvPart.Reads.Learnt
umv_part = record { takes_all = λ κs inputs. tt; one_answer = λ κs inputs x y v w. with_lasts (λ (z : PartAnswer). z.number) (λ (z : PartAnswer). (tt, (tt, (tt, (z.start, (z.length, tt)))))) }

pub umv_name : Promised UmvNameContract.ended UmvName.Reads.Asked UmvName.Reads.Learnt
umv_name = record { takes_all = λ κs inputs. tt; one_answer = λ κs inputs x y v w. with_lasts (λ (z : Naming). z.number) (λ (z : Naming). (tt, (tt, (tt, (tt, (tt, (tt, (z.name.channel, (z.name.bit, (z.name.copy, tt)))))))))) }

pub umv_gather : Promised UmvGatherContract.ended UmvGather.Reads.Asked UmvGather.Reads.Learnt
umv_gather = record { takes_all = λ κs inputs. tt; one_answer = λ κs inputs x y v w. number_and (λ (buffer : List Float) (at : ℕ). (tt, (tt, (buffer, (at, tt))))) }

pub umv_take_back : Promised UmvTakeBackContract.ended UmvTakeBack.Reads.Asked UmvTakeBack.Reads.Learnt
umv_take_back = record { takes_all = λ κs inputs. tt; one_answer = λ κs inputs x y v w. number_and (λ (buffer : List Float) (at : ℕ). (tt, (tt, (tt, (buffer, (at, tt)))))) }

pub umv_finish : Promised UmvFinishContract.ended UmvFinish.Reads.Asked UmvFinish.Reads.Learnt
umv_finish = record { takes_all = λ κs inputs. tt; one_answer = λ κs inputs x y v w. number_and (λ (buffer : List Float) (at : ℕ). (tt, (tt, (tt, (buffer, (at, tt)))))) }

pub umv_heard : Promised UmvHeardContract.ended UmvHeard.Reads.Asked UmvHeard.Reads.Learnt
umv_heard = record { takes_all = λ κs inputs. tt; one_answer = λ κs inputs x y v w. with_lasts (λ (z : Numbers). z.number) (λ (z : Numbers). (tt, (tt, (tt, (tt, (tt, (z.at, (z.value, (z.copies, tt))))))))) }

pub umv_link : Promised UmvLinkContract.ended UmvLink.Reads.Asked UmvLink.Reads.Learnt
umv_link = record { takes_all = λ κs inputs. tt; one_answer = λ κs inputs x y v w. with_lasts (λ (z : LinkAnswer). z.number) (λ (z : LinkAnswer). (tt, (tt, (tt, (tt, (z.at, (z.link.least, (z.link.greatest, (z.link.punctured, tt))))))))) }
