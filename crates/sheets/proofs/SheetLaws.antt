-- Laws of reading a sheet into the row of 549 numbers, and of writing it.
use mathlib.Core.Path.{◌≡◌, refl, sym, ap, ◌∙◌}
use mathlib.Core.Bool.{not}
use mathlib.Core.List.{List, [], ◌∷◌}
use Prim.Native.Nat.{ℕ}
use native.Mathlib.Omega.{arith}
use borrow.Author.Tests.{eq-eqb, ne_eqb}
use lib.ListN.{length}
use Rattle.counters.specs.Lines.{line, answer_of}
use Rattle.counters.specs.Lines.{Answer}
use Rattle.counters.proofs.LineLaws.{here, past, last-holds, last_clear, first-append}
use Rattle.sheet.specs.Fields.{sheet_of}
use Rattle.sheet.specs.Numbers.{read_lines, read_answer}
use Rattle.sheet.specs.Sizes.{bytes_needed}
use Rattle.sheet.specs.declared.Sheet.{Sheet}
use Rattle.sheet.specs.Numbers.{SheetAnswer}
use Rattle.sheet.proofs.NumberLaws.{read_numbered, number_read, fields_read}
use Rattle.writing.specs.Numbers.{field_number, write_number}
use Rattle.writing.specs.Written.{bytes_of, length_answer, write_answer, written_to}
use Rattle.looking.specs.Outcome.{Outcome, outcome, wrote}
use Rattle.looking.proofs.OutcomeLaws.{wrote_no, wrote_yes}
use Rattle.sheets.specs.Flat.{flat_count, flat_of, sheet_from}
use Rattle.sheets.specs.Sheets.{not_flat, read_into, write_into, answer_made, length_from, write_from}

-- reading into a row that was `old`
module _ (s : List ℕ) (a : SheetAnswer) (e : a ≡ read_answer s) (old : List ℕ) where
  pub read_refused : (a.number ≡ 0 → ⊥) → outcome a.number 0 old ≡ read_into s old
  read_refused z =
      let n = number_read s a e in
      wrote_no _ flat_count (flat_of (sheet_of s)) old
      (n ∙ first-append (read_lines s) (line (not_flat (length old)) 11 ∷ []) (λ q. z (n ∙ q))) z

  pub read_misfit : a.number ≡ 0 → (length old ≡ flat_count → ⊥) → outcome 11 0 old ≡ read_into s old
  read_misfit z h =
      wrote_no _ flat_count (flat_of (sheet_of s)) old
      (last-holds (not_flat (length old)) 11 (read_numbered s) (sym (number_read s a e) ∙ z) (ap not (ne_eqb _ _ h)))
      (λ q. omega arith)

  pub read_laid : a.number ≡ 0 → length old ≡ flat_count → {new : List ℕ} → new ≡ flat_of a.sheet → outcome 0 flat_count new ≡ read_into s old
  read_laid z h p =
      wrote_yes _ flat_count (flat_of (sheet_of s)) old
      (last_clear (not_flat (length old)) 11 (read_numbered s) (sym (number_read s a e) ∙ z) (ap not (eq-eqb _ _ h))) refl
      (p ∙ ap flat_of (fields_read s a e z))

-- writing from a struct of fields
pub write_made : (sh : Sheet) (old : List ℕ) {r : Answer} {new : List ℕ} → r ≡ write_answer sh old → new ≡ written_to sh old
    → outcome r.number r.at new ≡ write_into sh old
write_made sh old e p = rw (e, p)

-- from a row of numbers
module _ (l : List ℕ) where
  pub length-misfit : (length l ≡ flat_count → ⊥) → answer_made 11 0 ≡ length_from l
  length-misfit h = answered (here (not_flat (length l)) 11 _ (ap not (ne_eqb _ _ h)))
    where
      answered : {n : ℕ} → 11 ≡ n → answer_made 11 0 ≡ answer_of n (bytes_needed (sheet_from l))
      answered {n} e = rw (← e)

  pub length-made : length l ≡ flat_count → {r : Answer} → r ≡ length_answer (sheet_from l) → answer_made r.number r.at ≡ length_from l
  length-made h e = rw e (ap (λ (n : ℕ). answer_of n (bytes_needed (sheet_from l))) (past (not_flat (length l)) 11 (field_number (sheet_from l)) (ap not (eq-eqb _ _ h)) refl))

  pub write_misfit : (old : List ℕ) → (length l ≡ flat_count → ⊥) → outcome 11 0 old ≡ write_from l old
  write_misfit old h =
      wrote_no _ (bytes_needed (sheet_from l)) (bytes_of (sheet_from l)) old (here (not_flat (length l)) 11 _ (ap not (ne_eqb _ _ h))) (λ q. omega arith)

  pub write_flat : (old : List ℕ) → length l ≡ flat_count → {o : Outcome ℕ} → o ≡ write_into (sheet_from l) old → o ≡ write_from l old
  write_flat old h e =
      e
      ∙ ap (λ (n : ℕ). wrote n (bytes_needed (sheet_from l)) (bytes_of (sheet_from l)) old)
      (past (not_flat (length l)) 11 (write_number (sheet_from l) (length old)) (ap not (eq-eqb _ _ h)) refl)
