-- S11: every value that document 01 marks P is what the definitions give.
use mathlib.Core.Path.{◌≡◌, refl}
use mathlib.Core.List.{map}
use Rattle.laws.specs.Sums.{sum_to}
use Rattle.laws.specs.Tables.{table}
use Rattle.orders.specs.Orders.{orders, column_at, row_of, order}
use Rattle.offset.specs.Ints.{floor_div, floor_over, ceil_over, mod_over}
use Rattle.offset.specs.Offset.{remainder_of, q_of, euclid, gcd, added_of, q_f, y_of, filled, S, start_of}
use Rattle.pattern.specs.Text.{punctured_text, while_low, repeated_text, matched_text}
use Rattle.interleaving.specs.Columns.{column, columns}
use Rattle.interleaving.specs.First.{equalised, first_interleaved, segment_of}
use Rattle.interleaving.specs.Second.{second_interleaved}
use Rattle.mapping.specs.Mapping.{passed, one_more, onward, taker, after_bit, pos_of, place, run, mapped}
use Rattle.values.specs.Values.{Row, rows}

pub values : map (λ (r : Row). r.given) rows ≡ map (λ (r : Row). r.printed) rows
unfolding sum_to table orders column_at row_of order floor_div floor_over ceil_over mod_over remainder_of q_of euclid gcd added_of q_f y_of filled S start_of punctured_text while_low repeated_text matched_text column columns equalised first_interleaved segment_of second_interleaved passed one_more onward taker after_bit pos_of place run mapped rows
values = refl
