use mathlib.Core.Path.{◌≡◌, ap, ◌∙◌}
use mathlib.Core.Bool.{cond}
use mathlib.Core.List.{[], ◌∷◌, ◌++◌}
use Prim.Native.Nat.{ℕ, ◌-◌}
use Rattle.std.specs.Prelude.{Err}
use Rattle.std.proofs.lemmas.Result.{err_from_is_err_and}
use Rattle.counters.specs.Lines.{line}
use Rattle.sheet.specs.Fields.{sheet_of}
use Rattle.sheet.specs.Sizes.{capacity_all}
use Rattle.sheet.specs.declared.Sheet.{Sheet}
use Rattle.joining.specs.Range.{in_range}
use Rattle.joining.specs.declared.Heard.{Heard}
use Rattle.looking.specs.Looking.{frame_lines, no_trch}
use Rattle.looking.proofs.LookLaws.{early_numbered, early_frame, looks_early, looks_late, number_first, number_second}
use Rattle.receiving.specs.Listening.{not_sent, no_bit}
use Rattle.receiving.proofs.ListenLaws.{ten_first, ten_second, listened, heard_refused}
use Rattle.receiving.proofs.listening.heard.Goals.{In_ok-i}
use Rattle.receiving.proofs.listening.heard.Goals as goal

-- the channel is there
channel : (c : In_ok-i) → ◌≡◌ {A = ℕ} 0 (cond (no_trch (sheet_of c.args.bytes.now) c.args.trch.0) 10 0)
channel c = c.in_ok-i.ensures.number.0 ∙ ap (λ (x : Sheet). cond (no_trch x c.args.trch.0) 10 0) c.in_ok-opened.ensures.opened

-- what is said of a bit, in the sheet's own words
bit : (c : In_ok-i) {n : ℕ} → n ≡ cond (not_sent c.in_ok-opened.opened.fields c.in_ok-i.i c.args.bit.0) 10 0
    → n ≡ cond (no_bit (sheet_of c.args.bytes.now) c.args.trch.0 c.args.bit.0) 10 0
bit c e =
    let sh = sheet_of c.args.bytes.now in
    let k = c.args.trch.0 in
    let b = c.args.bit.0 in
    ten_second (no_trch sh k) (not_sent sh (k - 1) b) (channel c)
    (e ∙ ap (λ (x : Sheet). cond (not_sent x c.in_ok-i.i b) 10 0) c.in_ok-opened.ensures.opened
    ∙ ap (λ (i : ℕ). cond (not_sent sh i b) 10 0) c.in_ok-i.ensures.index.0)

pub returns-in_err-opened : goal.returns-in_err-opened
returns-in_err-opened c =
    let a = c.args in
    let p = err_from_is_err_and c.from_residual.result c.from_residual.ensures.1 in
    let n = c.in_err-opened.ensures.number in
    let r = c.in_err-opened.field-0.0 in
    let s = a.bytes.now in
    let sh = sheet_of s in
    let bad = no_bit sh a.trch.0 a.bit.0 in
    let head = frame_lines s a.number.0 in
    let e = number_first head (line bad 10 ∷ []) r n.0 in
    let l = looks_early in_range (head ++ line bad 10 ∷ []) (listened s a.number.0 bad) a.frame.now (capacity_all sh) 0 0 Heard r e n.1 in
    rw (p.1, p.2) (heard_refused s a.number.0 a.frame.now a.trch.0 a.bit.0 r l.0 l.1)

pub returns-in_err-i : goal.returns-in_err-i
returns-in_err-i c =
    let a = c.args in
    let p = err_from_is_err_and c.from_residual-in_err-i.result c.from_residual-in_err-i.ensures.1 in
    let o = c.in_ok-opened.ensures in
    let n = c.in_err-i.ensures.number in
    let r = c.in_err-i.field-0.0 in
    let s = a.bytes.now in
    let sh = sheet_of s in
    let k = a.trch.0 in
    let bad = no_bit sh k a.bit.0 in
    let head = frame_lines s a.number.0 in
    let t = ten_first (no_trch sh k) (not_sent sh (k - 1) a.bit.0) r (n.0 ∙ ap (λ (x : Sheet). cond (no_trch x k) 10 0) o.opened) in
    let e = number_second (line bad 10 ∷ []) (early_numbered (early_frame s a.number.0)) o.number.0 t in
    let l = looks_early in_range (head ++ line bad 10 ∷ []) (listened s a.number.0 bad) a.frame.now (capacity_all sh) 0 0 Heard r e n.1 in
    rw (p.1, p.2) (heard_refused s a.number.0 a.frame.now k a.bit.0 r l.0 l.1)

pub returns-in_err-m : goal.returns-in_err-m
returns-in_err-m c =
    let a = c.args in
    let p = err_from_is_err_and c.from_residual-in_err-m.result c.from_residual-in_err-m.ensures.1 in
    let g = (goal.at.returns-in_err-m c).In_ok-i in
    let n = c.in_err-m.ensures.number in
    let r = c.in_err-m.field-0.0 in
    let s = a.bytes.now in
    let sh = sheet_of s in
    let bad = no_bit sh a.trch.0 a.bit.0 in
    let head = frame_lines s a.number.0 in
    let e = number_second (line bad 10 ∷ []) (early_numbered (early_frame s a.number.0)) c.in_ok-opened.ensures.number.0 (bit g n.0) in
    let l = looks_early in_range (head ++ line bad 10 ∷ []) (listened s a.number.0 bad) a.frame.now (capacity_all sh) 0 0 Heard r e n.1 in
    rw (p.1, p.2) (heard_refused s a.number.0 a.frame.now a.trch.0 a.bit.0 r l.0 l.1)

pub returns-in_err-look_soft : goal.returns-in_err-look_soft
returns-in_err-look_soft c =
    let a = c.args in
    let p = err_from_is_err_and c.from_residual-in_err-look_soft.result c.from_residual-in_err-look_soft.ensures.1 in
    let g = (goal.at.returns-in_err-look_soft c).In_ok-i in
    let o = c.in_ok-opened.ensures in
    let r = c.in_err-look_soft.field-0.0 in
    let s = a.bytes.now in
    let sh = sheet_of s in
    let bad = no_bit sh a.trch.0 a.bit.0 in
    let head = frame_lines s a.number.0 in
    let d = c.capacity.ensures.0 ∙ ap capacity_all o.opened in
    let z = number_second (line bad 10 ∷ []) (early_numbered (early_frame s a.number.0)) o.number.0 (bit g c.in_ok-m.ensures.number.0) in
    let l =
    looks_late in_range (head ++ line bad 10 ∷ []) (listened s a.number.0 bad) a.frame.now (capacity_all sh) 0 0 {B = Heard} z (Err r)
    (rw (← d) c.in_err-look_soft.ensures.number) in
    rw (p.1, p.2) (heard_refused s a.number.0 a.frame.now a.trch.0 a.bit.0 r l.0 l.1)
