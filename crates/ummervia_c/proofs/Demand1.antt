-- Demand 1 of each call that C links: what crate `demands` states of the library's call of its name.
use Rattle.demands.specs.Demanded.{Demanded}
use Rattle.demands.specs.Calls.{UmvSheetReadCall, UmvSheetLengthCall, UmvSheetWriteCall, SizesCall, ChannelCall, NameCall, PartCall, BuildCall, MultiplexCall, SpreadCall, GatherCall, TakeBackCall, FinishCall, UmvHeardCall, LinkCall}
use Rattle.demands.proofs.Demand1 as Demand1

pub umv_sheet_read : Demanded Rattle.ummervia_c.specs.contracts.umv_sheet_read.ended Rattle.ummervia_c.proofs.umv_sheet_read.Reads.Asked Rattle.ummervia_c.proofs.umv_sheet_read.Reads.Learnt
    (λ κs (bytes, (old, _)) r (_, (new, (at, _))). UmvSheetReadCall bytes.now old.now r (at, new))
umv_sheet_read = Demand1.umv_sheet_read

pub umv_sheet_length : Demanded Rattle.ummervia_c.specs.contracts.umv_sheet_length.ended Rattle.ummervia_c.proofs.umv_sheet_length.Reads.Asked Rattle.ummervia_c.proofs.umv_sheet_length.Reads.Learnt
    (λ κs (row, _) r (_, (at, _)). UmvSheetLengthCall row.now r at)
umv_sheet_length = Demand1.umv_sheet_length

pub umv_sheet_write : Demanded Rattle.ummervia_c.specs.contracts.umv_sheet_write.ended Rattle.ummervia_c.proofs.umv_sheet_write.Reads.Asked Rattle.ummervia_c.proofs.umv_sheet_write.Reads.Learnt
    (λ κs (row, (old, _)) r (_, (new, (at, _))). UmvSheetWriteCall row.now old.now r (at, new))
umv_sheet_write = Demand1.umv_sheet_write

pub umv_sizes : Demanded Rattle.ummervia_c.specs.contracts.umv_sizes.ended Rattle.ummervia_c.proofs.umv_sizes.Reads.Asked Rattle.ummervia_c.proofs.umv_sizes.Reads.Learnt
    (λ κs (bytes, _) r (_, (channels, (slots, (contents, (capacity, (joined, _)))))).
    SizesCall bytes.now r (channels, slots, contents, capacity, joined))
umv_sizes = Demand1.umv_sizes

pub umv_channel : Demanded Rattle.ummervia_c.specs.contracts.umv_channel.ended Rattle.ummervia_c.proofs.umv_channel.Reads.Asked Rattle.ummervia_c.proofs.umv_channel.Reads.Learnt
    (λ κs (bytes, (trch, _)) r (_, (_, (f, (e, (n, (v, _)))))). ChannelCall bytes.now trch r (f, e, n, v))
umv_channel = Demand1.umv_channel

pub umv_name : Demanded Rattle.ummervia_c.specs.contracts.umv_name.ended Rattle.ummervia_c.proofs.umv_name.Reads.Asked Rattle.ummervia_c.proofs.umv_name.Reads.Learnt
    (λ κs (bytes, (frame, (subframe, (slot, (phch, (place, _)))))) r (_, (_, (_, (_, (_, (_, (channel, (bit, (copy, _))))))))).
    NameCall bytes.now frame subframe slot phch place r (record { channel = channel; bit = bit; copy = copy }))
umv_name = Demand1.umv_name

pub umv_part : Demanded Rattle.ummervia_c.specs.contracts.umv_part.ended Rattle.ummervia_c.proofs.umv_part.Reads.Asked Rattle.ummervia_c.proofs.umv_part.Reads.Learnt
    (λ κs (bytes, (trch, (n, _))) r (_, (_, (_, (start, (size, _))))).
    PartCall bytes.now trch n r (start, size))
umv_part = Demand1.umv_part

pub umv_build : Demanded Rattle.ummervia_c.specs.contracts.umv_build.ended Rattle.ummervia_c.proofs.umv_build.Reads.Asked Rattle.ummervia_c.proofs.umv_build.Reads.Learnt
    (λ κs (bytes, (frame, (contents, (old, _)))) r (_, (_, (_, (new, (at, _))))).
    BuildCall bytes.now frame contents.now old.now r at new)
umv_build = Demand1.umv_build

pub umv_multiplex : Demanded Rattle.ummervia_c.specs.contracts.umv_multiplex.ended Rattle.ummervia_c.proofs.umv_multiplex.Reads.Asked Rattle.ummervia_c.proofs.umv_multiplex.Reads.Learnt
    (λ κs (bytes, (frame, (contents, (old, _)))) r (_, (_, (_, (new, (at, _))))).
    MultiplexCall bytes.now frame contents.now old.now r at new)
umv_multiplex = Demand1.umv_multiplex

pub umv_spread : Demanded Rattle.ummervia_c.specs.contracts.umv_spread.ended Rattle.ummervia_c.proofs.umv_spread.Reads.Asked Rattle.ummervia_c.proofs.umv_spread.Reads.Learnt
    (λ κs (bytes, (bits, (old, _))) r (_, (_, (new, (at, _)))).
    SpreadCall bytes.now bits.now old.now r at new)
umv_spread = Demand1.umv_spread

pub umv_gather : Demanded Rattle.ummervia_c.specs.contracts.umv_gather.ended Rattle.ummervia_c.proofs.umv_gather.Reads.Asked Rattle.ummervia_c.proofs.umv_gather.Reads.Learnt
    (λ κs (bytes, (frame, (old, _))) r (_, (_, (new, (at, _)))).
    GatherCall bytes.now frame.now old.now r at new)
umv_gather = Demand1.umv_gather

pub umv_take_back : Demanded Rattle.ummervia_c.specs.contracts.umv_take_back.ended Rattle.ummervia_c.proofs.umv_take_back.Reads.Asked Rattle.ummervia_c.proofs.umv_take_back.Reads.Learnt
    (λ κs (bytes, (number, (frame, (old, _)))) r (_, (_, (_, (new, (at, _))))).
    TakeBackCall bytes.now number frame.now old.now r at new)
umv_take_back = Demand1.umv_take_back

pub umv_finish : Demanded Rattle.ummervia_c.specs.contracts.umv_finish.ended Rattle.ummervia_c.proofs.umv_finish.Reads.Asked Rattle.ummervia_c.proofs.umv_finish.Reads.Learnt
    (λ κs (bytes, (trch, (joined, (old, _)))) r (_, (_, (_, (new, (at, _))))).
    FinishCall bytes.now trch joined.now old.now r (at, new))
umv_finish = Demand1.umv_finish

pub umv_heard : Demanded Rattle.ummervia_c.specs.contracts.umv_heard.ended Rattle.ummervia_c.proofs.umv_heard.Reads.Asked Rattle.ummervia_c.proofs.umv_heard.Reads.Learnt
    (λ κs (bytes, (number, (frame, (trch, (bit, _))))) r (_, (_, (_, (_, (_, (at, (value, (copies, _)))))))).
    UmvHeardCall bytes.now number frame.now trch bit r at (value, copies))
umv_heard = Demand1.umv_heard

pub umv_link : Demanded Rattle.ummervia_c.specs.contracts.umv_link.ended Rattle.ummervia_c.proofs.umv_link.Reads.Asked Rattle.ummervia_c.proofs.umv_link.Reads.Learnt
    (λ κs (bytes, (number, (frame, (trch, _)))) r (_, (_, (_, (_, (at, (least, (greatest, (punctured, _)))))))).
    LinkCall bytes.now number frame.now trch r at (record { least = least; greatest = greatest; punctured = punctured }))
umv_link = Demand1.umv_link
