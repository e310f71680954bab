-- Laws of the row of 549 numbers: laid in parts, taken out in parts, and there and back.
use mathlib.Core.Path.{◌≡◌, refl, sym, ap, ap₂, ◌∙◌}
use mathlib.Core.List.{List, [], ◌++◌, append_assoc}
use Prim.Native.Nat.{ℕ, ◌+◌, ◌*◌, ◌/◌, ◌%◌}
use native.Mathlib.Nat.{add-zero}
use native.Mathlib.Omega.{arith}
use lib.ListN.{length, get_or, take, drop, length-append}
use lib.Seq.{take_at, drop-append-add, get_or-append-add}
use Rattle.laws.proofs.TableLaws.{table-length, table_at, filled-all, up_to-below}
use Rattle.laws.proofs.LaidLaws.{laid_none, laid_more, laid-all}
use Rattle.sheet.specs.Counts.{most_channels, most_slots, most_codes, most_capacities, most_paired, most_logs}
use Rattle.sheet.specs.Fields.{log_in}
use Rattle.sheet.specs.declared.Sheet.{Sheet}
use Rattle.sheets.specs.Flat.{tti_from, encoded_from, ratio_from, phchs_from, caps_from, logs_from, flat_count, flat_head, flat_logs, logs_taken, flat_of, sheet_from, LaidAt}

logs_long : (logs : List ℕ) → length (flat_logs logs) ≡ most_capacities
logs_long logs = table-length _ 0 most_capacities

-- the row, part after part
pub row_laid : (sh : Sheet) (o : List ℕ) {o1 o2 o3 o4 o5 o6 o7 : List ℕ} → length o ≡ flat_count → length sh.tti ≡ most_channels
    → length sh.e ≡ most_channels → length sh.rm ≡ most_channels → length sh.phchs ≡ most_slots → length sh.caps ≡ most_capacities
    → LaidAt o o1 0 (flat_head sh) → LaidAt o1 o2 tti_from sh.tti → LaidAt o2 o3 encoded_from sh.e
    → LaidAt o3 o4 ratio_from sh.rm → LaidAt o4 o5 phchs_from sh.phchs → LaidAt o5 o6 caps_from sh.caps → LaidAt o6 o7 logs_from (flat_logs sh.logs)
    → o7 ≡ flat_of sh
unfolding flat_of
row_laid sh o n nt ne nr np nc l1 l2 l3 l4 l5 l6 l7 =
    let head = flat_head sh in
    let h1 = laid_more o o 0 [] head (laid_none o) {r = tti_from} refl l1.there in
    let h2 = laid_more o _ tti_from head sh.tti h1 {r = encoded_from} (omega arith) l2.there in
    let h3 = laid_more o _ encoded_from (head ++ sh.tti) sh.e h2 {r = ratio_from} (omega arith) l3.there in
    let h4 = laid_more o _ ratio_from ((head ++ sh.tti) ++ sh.e) sh.rm h3 {r = phchs_from} (omega arith) l4.there in
    let h5 = laid_more o _ phchs_from (((head ++ sh.tti) ++ sh.e) ++ sh.rm) sh.phchs h4 {r = caps_from} (omega arith) l5.there in
    let h6 =
    laid_more o _ caps_from ((((head ++ sh.tti) ++ sh.e) ++ sh.rm) ++ sh.phchs) sh.caps h5 {r = logs_from} (omega arith) l6.there
    in
    let h7 =
    laid_more o _ logs_from (((((head ++ sh.tti) ++ sh.e) ++ sh.rm) ++ sh.phchs) ++ sh.caps) (flat_logs sh.logs) h6 {r = flat_count}
    (omega (arith, logs_long sh.logs)) l7.there
    in
    laid-all o _ flat_count ((((((head ++ sh.tti) ++ sh.e) ++ sh.rm) ++ sh.phchs) ++ sh.caps) ++ flat_logs sh.logs) h7 (sym n)

-- the fields, part after part
pub sheet_taken : (l : List ℕ) {t e r p c g : List ℕ} → t ≡ take most_channels (drop tti_from l) → e ≡ take most_channels (drop encoded_from l)
    → r ≡ take most_channels (drop ratio_from l) → p ≡ take most_slots (drop phchs_from l) → c ≡ take most_capacities (drop caps_from l)
    → g ≡ logs_taken l
    → ◌≡◌ {A = Sheet}
    (record {
      version = get_or l 0 0;
      mode = get_or l 1 0;
      channels = get_or l 2 0;
      slots = get_or l 3 0;
      uplink = get_or l 4 0;
      lcr = get_or l 5 0;
      tti = t;
      e = e;
      rm = r;
      phchs = p;
      caps = c;
      logs = g;
    })
    (sheet_from l)
unfolding sheet_from
sheet_taken l et ee er ep ec eg = rw (et, ee, er, ep, ec, eg)

-- arrays of the lengths that the struct has
pub record Shaped (sh : Sheet) : Type 0 where
  pub tti : length sh.tti ≡ most_channels
  pub e : length sh.e ≡ most_channels
  pub rm : length sh.rm ≡ most_channels
  pub phchs : length sh.phchs ≡ most_slots
  pub caps : length sh.caps ≡ most_capacities
  pub logs : length sh.logs ≡ most_logs

pub flat-long : (sh : Sheet) → Shaped sh → length (flat_of sh) ≡ flat_count
unfolding flat_of
flat-long sh k =
    simp length-append (omega (arith, k.tti, k.e, k.rm, k.phchs, k.caps, logs_long sh.logs))

-- a part in the middle of a row
middle : (row a b c : List ℕ) (m n : ℕ) → row ≡ a ++ (b ++ c) → length a ≡ m → length b ≡ n → take n (drop m row) ≡ b
middle row a b c m n e ea eb =
    ap (λ (x : List ℕ). take n (drop m x)) e
    ∙ ap (λ (x : ℕ). take n (drop x (a ++ (b ++ c)))) (sym ea ∙ sym (add-zero (length a)))
    ∙ ap (take n) (drop-append-add a (b ++ c) 0)
    ∙ take_at b c n eb

-- the logarithms of a row that ends with them
logs_back : (logs row : List ℕ) → length logs ≡ most_logs → ((m : ℕ) → get_or row (logs_from + m) 0 ≡ get_or (flat_logs logs) m 0) → logs ≡ logs_taken row
logs_back logs row n same =
    filled-all _ logs most_logs n
    (λ k l.
    let m = most_codes * (k / most_paired) + k % most_paired in
    let q : m / most_codes ≡ k / most_paired = omega arith in
    let r : m % most_codes ≡ k % most_paired = omega arith in
    let e : most_paired * (k / most_paired) + k % most_paired ≡ k = omega arith in
    sym
    (same m
    ∙ table_at (λ j. log_in logs (j / most_codes) (j % most_codes)) most_capacities m (omega arith)
    ∙ ap₂ (log_in logs) q r
    ∙ up_to-below most_paired (k % most_paired) _ (omega arith)
    ∙ ap (λ (x : ℕ). get_or logs x 0) e))

-- the fields of a row that was laid are the fields
pub flat_back : (sh : Sheet) → Shaped sh → sheet_from (flat_of sh) ≡ sh
unfolding flat_of
flat_back sh k =
    let head = flat_head sh in
    let to-tti = head ++ sh.tti in
    let to-e = to-tti ++ sh.e in
    let to-rm = to-e ++ sh.rm in
    let to-phchs = to-rm ++ sh.phchs in
    let to-caps = to-phchs ++ sh.caps in
    let logs = flat_logs sh.logs in
    let row = to-caps ++ logs in
    let n1 : length to-tti ≡ encoded_from = omega (arith, length-append head sh.tti, k.tti) in
    let n2 : length to-e ≡ ratio_from = omega (arith, length-append to-tti sh.e, k.e) in
    let n3 : length to-rm ≡ phchs_from = omega (arith, length-append to-e sh.rm, k.rm) in
    let n4 : length to-phchs ≡ caps_from = omega (arith, length-append to-rm sh.phchs, k.phchs) in
    let n5 : length to-caps ≡ logs_from = omega (arith, length-append to-phchs sh.caps, k.caps) in
    sym
    (sheet_taken row
    (sym (middle row head sh.tti (sh.e ++ (sh.rm ++ (sh.phchs ++ (sh.caps ++ logs)))) tti_from most_channels (simp append_assoc) refl k.tti))
    (sym (middle row to-tti sh.e (sh.rm ++ (sh.phchs ++ (sh.caps ++ logs))) encoded_from most_channels (simp append_assoc) n1 k.e))
    (sym (middle row to-e sh.rm (sh.phchs ++ (sh.caps ++ logs)) ratio_from most_channels (simp append_assoc) n2 k.rm))
    (sym (middle row to-rm sh.phchs (sh.caps ++ logs) phchs_from most_slots (simp append_assoc) n3 k.phchs))
    (sym (middle row to-phchs sh.caps logs caps_from most_capacities (simp append_assoc) n4 k.caps))
    (logs_back sh.logs row k.logs
    (λ m. ap (λ (x : ℕ). get_or row (x + m) 0) (sym n5) ∙ get_or-append-add to-caps logs m 0)))
