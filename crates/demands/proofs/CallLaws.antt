-- What each call's contract says that it leaves is what document 01 says of the call. One law serves the call in Rattle and in C.
use mathlib.Core.Path.{◌≡◌, refl, sym, ap, ◌∙◌}
use mathlib.Core.Logic.{◌↔◌, ◌≢◌}
use mathlib.Core.Bool.{Bool, true, false, not, cond}
use mathlib.Core.List.{List, [], ◌∷◌, ◌++◌}
use Prim.Native.Nat.{ℕ, ◌-◌}
use native.Mathlib.Omega.{arith}
use borrow.Author.Tests.{eq-eqb, ne_eqb}
use lib.Dec.{eqb}
use lib.Ieee.{Float, nan}
use lib.ListN.{length, take, drop}
use Rattle.laws.specs.FirstFail.{first_fail}
use Rattle.counters.specs.Lines.{Line, line, first_of, answer_of}
use Rattle.counters.specs.Lines.{Answer}
use Rattle.counters.proofs.LineLaws.{given_yes, given_no, given_read, given_pair}
use Rattle.sheet.specs.Fields.{sheet_of, blank, encoded_of}
use Rattle.sheet.specs.Sizes.{encoded_all, equalised_all, capacity_all, bytes_needed}
use Rattle.sheet.specs.Numbers.{read_number, read_answer}
use Rattle.sheet.specs.declared.Sheet.{Sheet}
use Rattle.sheet.specs.Numbers.{SheetAnswer}
use Rattle.writing.specs.Numbers.{field_lines, write_lines}
use Rattle.writing.specs.Written.{bytes_of, length_answer}
use Rattle.frame.specs.Frame.{spread, multiplexed_bits, bit_frame}
use Rattle.frame.specs.Bit.{is_bit}
use Rattle.naming.specs.Name.{name_of}
use Rattle.joining.specs.Joining.{value_of, count_of, plus_zero}
use Rattle.joining.specs.Range.{in_range}
use Rattle.joining.specs.declared.Heard.{Heard}
use Rattle.joining.specs.declared.Heard.TheVariants.{Nothing}
use Rattle.homing.specs.Gather.{gathered}
use Rattle.homing.specs.Home.{taken_back_of, taken_count, finished_of, heard_at, link_in}
use Rattle.homing.specs.Receiving.{no_link}
use Rattle.looking.specs.Outcome.{Outcome, wrote}
use Rattle.looking.specs.Looking.{look_lines, looked, frame_lines, no_trch}
use Rattle.looking.proofs.LookLaws.{Early, early_read, early_frame, early_more}
use Rattle.sheets.specs.Flat.{flat_of, sheet_from}
use Rattle.sheets.specs.Sheets.{read_into, write_into, length_from, write_from}
use Rattle.asking.specs.Asking.{sizes_answer, sizes_in, no_sizes, channel_answer, channel_in, no_channel, channel_number}
use Rattle.asking.specs.Part.{part_number, part_answer, part_in, no_part, part_of, part_at}
use Rattle.asking.specs.Naming.{Naming, name_answer, no_name}
use Rattle.asking.specs.Asking.{SizesAnswer}
use Rattle.asking.specs.Asking.{ChannelAnswer}
use Rattle.asking.specs.Part.{PartAnswer}
use Rattle.sending.specs.Building.{build_into, multiplex_into, spread_into}
use Rattle.receiving.specs.Receiving.{gather_into, take_into, finish_into}
use Rattle.receiving.specs.Listening.{no_bit, heard_lines, heard_answer, link_answer, Numbers, heard_numbers}
use Rattle.receiving.specs.Listening.{HeardAnswer}
use Rattle.receiving.specs.Listening.{LinkAnswer}
use Rattle.demands.specs.Exactly.{Saying}
use Rattle.demands.specs.Answers.{Answers, Points}
use Rattle.demands.specs.Table.{BadByte, BadSoft, row_length}
use Rattle.listing.specs.Listing.{lines_to, refusal, listing_of, text_of}
use Rattle.listing.specs.declared.Text.{Text}
use Rattle.demands.specs.Calls.{SheetReadCall, SheetLengthCall, SheetWriteCall, UmvSheetReadCall, UmvSheetLengthCall, UmvSheetWriteCall, SizesCall, ChannelCall, NameCall, PartCall, PartOfCall, BuildCall, MultiplexCall, SpreadCall, GatherCall, TakeBackCall, FinishCall, HeardCall, UmvHeardCall, LinkCall, ListSheetCall}
use Rattle.demands.proofs.ExactLaws.{Means, apart}
use Rattle.demands.proofs.TestMeans.{bad_byte, bad_soft}
use Rattle.demands.proofs.TableLaws.{sheet_means, field-lines, write_means, read_means, channel-lines, part_means, name_means, finish_means, build_means, moved_means, take_means, heard_means, link_means}
use Rattle.demands.proofs.AnswerLaws.{answers, answers_in, points, points_none}

-- ---- calls that write into a buffer

-- and look at no values
left_wrote : {A : Type 0} {ls : List Line} {ss : List Saying} → Means ls ss → apart ls ≡ true → (count : ℕ) (new old : List A) (o : Outcome A)
    → o ≡ wrote (first_of ls) count new old → Answers {X = ℕ × List A} ss o.number (o.at, o.buffer) (count, new) (0, old)
left_wrote {A = A} {ls = ls} means alone count new old o e =
    answers means alone (count, new) (0, old) (ap (λ (x : Outcome A). x.number) e)
    (ap (λ (x : Outcome A). (x.at, x.buffer)) e ∙ given_pair (first_of ls) count 0 new old)

-- and look at values
module _ {A B : Type 0} (test : A → Bool) (d : A) (Bad : A → Type 0) (bad : (x : A) → (test x ≡ false) ↔ Bad x) where
  left_looked : {head : List Line} → Early head → (values : List A) (needed room : ℕ) {ss : List Saying} (count : ℕ) (new old : List B)
      → Means (head ++ look_lines test values needed (length old) room) ss → apart (head ++ look_lines test values needed (length old) room) ≡ true
      → (o : Outcome B) → o ≡ looked (first_of (head ++ look_lines test values needed (length old) room)) (first_fail test values) count new old
      → Answers ss o.number o.buffer new old × Points Bad d values count o.number o.at
  left_looked early values needed room count new old means alone o e = (
    answers means alone new old (ap (λ (x : Outcome B). x.number) e) (ap (λ (x : Outcome B). x.buffer) e),
    points test d Bad bad early values needed (length old) room count (ap (λ (x : Outcome B). x.number) e) (ap (λ (x : Outcome B). x.at) e),
  )

-- ---- a sheet

pub sheet_read_law : (s : List ℕ) (a : SheetAnswer) → a ≡ read_answer s → SheetReadCall s a.number a.sheet
sheet_read_law s a e =
    answers (sheet_means s) refl (sheet_of s) blank (ap (λ (x : SheetAnswer). x.number) e) (ap (λ (x : SheetAnswer). x.sheet) e)

pub sheet_length_law : (sh : Sheet) (a : Answer) → a ≡ length_answer sh → SheetLengthCall sh a.number a.at
sheet_length_law sh a e =
    answers (field-lines sh) refl (bytes_needed sh) 0 (ap (λ (x : Answer). x.number) e) (ap (λ (x : Answer). x.at) e)

pub sheet_write_law : (sh : Sheet) (old : List ℕ) (o : Outcome ℕ) → o ≡ write_into sh old → SheetWriteCall sh old o.number (o.at, o.buffer)
sheet_write_law sh old o e = left_wrote (write_means sh (length old)) refl (bytes_needed sh) (bytes_of sh) old o e

pub umv_sheet_read_law : (s old : List ℕ) (o : Outcome ℕ) → o ≡ read_into s old → UmvSheetReadCall s old o.number (o.at, o.buffer)
umv_sheet_read_law s old o e = left_wrote (read_means s (length old)) refl row_length (flat_of (sheet_of s)) old o e

-- a line before the others: 11 where it holds, else what they have
module _ (row : List ℕ) where
  abbrev first : Line
  first = line (not (eqb (length row) row_length)) 11

  row-wrong : length row ≢ row_length → (ls : List Line) → first_of (first ∷ ls) ≡ 11
  row-wrong h ls = ap (λ (b : Bool). cond (not b) 11 (first_of ls)) (ne_eqb (length row) row_length h)

  row-right : length row ≡ row_length → (ls : List Line) → first_of (first ∷ ls) ≡ first_of ls
  row-right h ls = ap (λ (b : Bool). cond (not b) 11 (first_of ls)) (eq-eqb (length row) row_length h)

pub umv_sheet_length_law : (row : List ℕ) (a : Answer) → a ≡ length_from row → UmvSheetLengthCall row a.number a.at
umv_sheet_length_law row a e =
    let sh = sheet_from row in
    let ls = field_lines sh in
    record {
      wrong =
          λ h.
          let w = e ∙ ap (λ (n : ℕ). answer_of n (bytes_needed sh)) (row-wrong row h ls) in
          (ap (λ (x : Answer). x.number) w, ap (λ (x : Answer). x.at) w);
      right = λ h. sheet_length_law sh a (e ∙ ap (λ (n : ℕ). answer_of n (bytes_needed sh)) (row-right row h ls));
    }

pub umv_sheet_write_law : (row old : List ℕ) (o : Outcome ℕ) → o ≡ write_from row old → UmvSheetWriteCall row old o.number (o.at, o.buffer)
umv_sheet_write_law row old o e =
    let sh = sheet_from row in
    let ls = write_lines sh (length old) in
    let left : ℕ → Outcome ℕ = λ n. wrote n (bytes_needed sh) (bytes_of sh) old in
    record {
      wrong =
          λ h.
          let w = e ∙ ap left (row-wrong row h ls) in
          (ap (λ (x : Outcome ℕ). x.number) w, ap (λ (x : Outcome ℕ). (x.at, x.buffer)) w);
      right = λ h. sheet_write_law sh old o (e ∙ ap left (row-right row h ls));
    }

-- ---- its numbers

pub sizes_law : (s : List ℕ) (a : SizesAnswer) → a ≡ sizes_answer s
    → SizesCall s a.number (a.channels, a.slots, a.contents, a.capacity, a.joined)
sizes_law s a e =
    answers_in (sheet_means s) refl (λ (x : SizesAnswer). x.number)
    (λ (x : SizesAnswer). (x.channels, x.slots, x.contents, x.capacity, x.joined)) (sizes_in (sheet_of s)) (no_sizes (read_number s)) refl refl e

pub channel_law : (s : List ℕ) (k : ℕ) (a : ChannelAnswer) → a ≡ channel_answer s k → ChannelCall s k a.number (a.f, a.e, a.n, a.v)
channel_law s k a e =
    answers_in (channel-lines s k) refl (λ (x : ChannelAnswer). x.number) (λ (x : ChannelAnswer). (x.f, x.e, x.n, x.v))
    (channel_in (sheet_of s) (k - 1)) (no_channel (channel_number s k)) refl refl e

pub name_law : (s : List ℕ) (frame subframe slot phch place : ℕ) (a : Naming) → a ≡ name_answer s frame subframe slot phch place
    → NameCall s frame subframe slot phch place a.number a.name
name_law s frame subframe slot phch place a e =
    answers (name_means s frame subframe slot phch place) refl (name_of (sheet_of s) frame subframe slot phch place) no_name
    (ap (λ (x : Naming). x.number) e) (ap (λ (x : Naming). x.name) e)

pub part_law : (s : List ℕ) (k n : ℕ) (a : PartAnswer) → a ≡ part_answer s k n → PartCall s k n a.number (a.start, a.length)
part_law s k n a e =
    answers_in (part_means s k n) refl (λ (x : PartAnswer). x.number) (λ (x : PartAnswer). (x.start, x.length))
    (part_in (sheet_of s) (k - 1)) (no_part (part_number s k n)) refl refl e

pub part_of_law : {A : Type 0} (width : ℕ) (s : List ℕ) (k : ℕ) (frame part : (ℕ × ℕ) × List A) → part.1 ≡ part_of s k frame.1
    → part.0 ≡ part_at width s k (length frame.1) frame.0 → PartOfCall width s k frame part
part_of_law {A = A} width s k frame part e lies =
    let values = frame.1 in
    let n = part_number s k (length values) in
    let a = part_answer s k (length values) in
    let made = part_in (sheet_of s) (k - 1) in
    let cut : PartAnswer → List A = λ x. take x.length (drop x.start values) in
    record {
      number = a.number;
      start = a.start;
      size = a.length;
      answered = part_law s k (length values) a refl;
      is = e ∙ sym (given_read cut made (no_part n) n);
      lies = lies;
      empty = λ z. e ∙ given_no n (cut made) [] (λ q. z (ap (λ (x : PartAnswer). x.number) (given_yes n made (no_part n) q)));
    }

-- ---- there

module _ (s : List ℕ) (frame : ℕ) (contents old : List ℕ) (o : Outcome ℕ) where
  pub build_law : o ≡ build_into s frame contents old → BuildCall s frame contents old o.number o.at o.buffer
  build_law e =
      left_looked is_bit 0 BadByte bad_byte (early_frame s frame) contents (encoded_all (sheet_of s)) (capacity_all (sheet_of s)) (capacity_all (sheet_of s))
      (bit_frame (sheet_of s) frame contents) old (build_means s frame contents (length old)) refl o e

  pub multiplex_law : o ≡ multiplex_into s frame contents old → MultiplexCall s frame contents old o.number o.at o.buffer
  multiplex_law e =
      left_looked is_bit 0 BadByte bad_byte (early_frame s frame) contents (encoded_all (sheet_of s)) (capacity_all (sheet_of s)) (capacity_all (sheet_of s))
      (multiplexed_bits (sheet_of s) frame contents) old (build_means s frame contents (length old)) refl o e

pub spread_law : (s bits old : List ℕ) (o : Outcome ℕ) → o ≡ spread_into s bits old → SpreadCall s bits old o.number o.at o.buffer
spread_law s bits old o e =
    left_looked is_bit 0 BadByte bad_byte (early_read s) bits (capacity_all (sheet_of s)) (capacity_all (sheet_of s)) (capacity_all (sheet_of s))
    (spread (sheet_of s) bits) old (moved_means is_bit 0 BadByte bad_byte s bits (length old)) refl o e

-- ---- and back

pub gather_law : (s : List ℕ) (frame old : List Float) (o : Outcome Float) → o ≡ gather_into s frame old
    → GatherCall s frame old o.number o.at o.buffer
gather_law s frame old o e =
    left_looked in_range nan BadSoft bad_soft (early_read s) frame (capacity_all (sheet_of s)) (capacity_all (sheet_of s)) (capacity_all (sheet_of s))
    (gathered nan (sheet_of s) frame) old (moved_means in_range nan BadSoft bad_soft s frame (length old)) refl o e

pub take_back_law : (s : List ℕ) (number : ℕ) (frame old : List Float) (o : Outcome Float) → o ≡ take_into s number frame old
    → TakeBackCall s number frame old o.number o.at o.buffer
take_back_law s number frame old o e =
    left_looked in_range nan BadSoft bad_soft (early_frame s number) frame (capacity_all (sheet_of s)) (equalised_all (sheet_of s)) (taken_count (sheet_of s))
    (taken_back_of (sheet_of s) number frame old) old (take_means s number frame (length old)) refl o e

pub finish_law : (s : List ℕ) (k : ℕ) (joined old : List Float) (o : Outcome Float) → o ≡ finish_into s k joined old
    → FinishCall s k joined old o.number (o.at, o.buffer)
finish_law s k joined old o e =
    left_wrote (finish_means s k (length joined) (length old)) refl (encoded_of (sheet_of s) (k - 1)) (finished_of (sheet_of s) (k - 1) joined) old o e

module _ (s : List ℕ) (number : ℕ) (frame : List Float) where
  listened : (missing : Bool) → Early (frame_lines s number ++ line missing 10 ∷ [])
  listened missing = early_more missing 10 (early_frame s number) (omega arith) (λ q. omega arith)

  module _ (k b : ℕ) where
    abbrev made : Heard
    made = heard_at (sheet_of s) number (k - 1) (b - 1) frame

    at-heard : {n at : ℕ} → n ≡ (heard_answer s number frame k b).number → at ≡ (heard_answer s number frame k b).at → Points BadSoft nan frame 0 n at
    at-heard e f = points_none in_range nan BadSoft bad_soft (listened (no_bit (sheet_of s) k b)) frame (capacity_all (sheet_of s)) 0 0 e f

    pub heard_law : (a : HeardAnswer) → a ≡ heard_answer s number frame k b → HeardCall s number frame k b a.number a.at a.heard
    heard_law a e = (
      answers (heard_means s number frame k b) refl made Nothing (ap (λ (x : HeardAnswer). x.number) e) (ap (λ (x : HeardAnswer). x.heard) e),
      at-heard (ap (λ (x : HeardAnswer). x.number) e) (ap (λ (x : HeardAnswer). x.at) e),
    )

    pub umv_heard_law : (a : Numbers) → a ≡ heard_numbers (heard_answer s number frame k b)
        → UmvHeardCall s number frame k b a.number a.at (a.value, a.copies)
    unfolding value_of count_of
    umv_heard_law a e =
        let read : Heard → Float × ℕ = λ h. (value_of h, count_of h) in (
          answers (heard_means s number frame k b) refl (read made) (plus_zero, 0) (ap (λ (x : Numbers). x.number) e)
              (ap (λ (x : Numbers). (x.value, x.copies)) e ∙ given_read read made Nothing (first_of (heard_lines s number frame k b))),
          at-heard (ap (λ (x : Numbers). x.number) e) (ap (λ (x : Numbers). x.at) e),
        )

  pub link_law : (k : ℕ) (a : LinkAnswer) → a ≡ link_answer s number frame k → LinkCall s number frame k a.number a.at a.link
  link_law k a e = (
    answers (link_means s number frame k) refl (link_in (sheet_of s) number (k - 1) frame) no_link (ap (λ (x : LinkAnswer). x.number) e)
        (ap (λ (x : LinkAnswer). x.link) e),
    points_none in_range nan BadSoft bad_soft (listened (no_trch (sheet_of s) k)) frame (capacity_all (sheet_of s)) 0 0 (ap (λ (x : LinkAnswer). x.number) e)
        (ap (λ (x : LinkAnswer). x.at) e),
  )

-- ---- the lister

pub list_sheet_law : (s : List ℕ) (text : Text) → text ≡ text_of (listing_of s) → ListSheetCall s text
unfolding listing_of
list_sheet_law s text e =
    let n = read_number s in
    let made = lines_to (sheet_of s) (sheet_of s).channels in
    (n, answers (sheet_means s) refl (text_of made) (text_of (refusal n)) refl (e ∙ given_read text_of made (refusal n) n))
