use mathlib.Core.Path.{ap, ◌∙◌}
use mathlib.Core.List.{[], ◌∷◌, ◌++◌}
use Rattle.std.specs.Prelude.{Err}
use Rattle.std.proofs.lemmas.Result.{err_from_is_err_and}
use Rattle.counters.specs.Lines.{line, first_of}
use Rattle.sheet.specs.Fields.{sheet_of}
use Rattle.sheet.specs.Sizes.{capacity_all}
use Rattle.sheet.specs.declared.Sheet.{Sheet}
use Rattle.joining.specs.Range.{in_range}
use Rattle.joining.specs.declared.linking.Link.{Link}
use Rattle.looking.specs.Looking.{frame_lines, no_trch}
use Rattle.looking.proofs.LookLaws.{early_numbered, early_frame, looks_early, looks_late, number_first, number_second}
use Rattle.receiving.proofs.ListenLaws.{listened, link_refused}
use Rattle.receiving.proofs.listening.link.Goals as goal

pub returns-in_err-opened : goal.returns-in_err-opened
returns-in_err-opened c =
    let a = c.args in
    let p = err_from_is_err_and c.from_residual.result c.from_residual.ensures.1 in
    let n = c.in_err-opened.ensures.number in
    let r = c.in_err-opened.field-0.0 in
    let s = a.bytes.now in
    let sh = sheet_of s in
    let bad = no_trch sh a.trch.0 in
    let head = frame_lines s a.number.0 in
    let e = number_first head (line bad 10 ∷ []) r n.0 in
    let l = looks_early in_range (head ++ line bad 10 ∷ []) (listened s a.number.0 bad) a.frame.now (capacity_all sh) 0 0 Link r e n.1 in
    rw (p.1, p.2) (search (link_refused s a.number.0 a.frame.now a.trch.0 r l.0 l.1))

pub returns-in_err-look_soft : goal.returns-in_err-look_soft
returns-in_err-look_soft c =
    let a = c.args in
    let p = err_from_is_err_and c.from_residual-in_err-look_soft.result c.from_residual-in_err-look_soft.ensures.1 in
    let o = c.in_ok-opened.ensures in
    let r = c.in_err-look_soft.field-0.0 in
    let s = a.bytes.now in
    let sh = sheet_of s in
    let k = a.trch.0 in
    let bad = no_trch sh k in
    let head = frame_lines s a.number.0 in
    let d = c.capacity.ensures.0 ∙ ap capacity_all o.opened in
    let t = c.in_ok-i.ensures.number.0 ∙ ap (λ (x : Sheet). first_of (line (no_trch x k) 10 ∷ [])) o.opened in
    let z = number_second (line bad 10 ∷ []) (early_numbered (early_frame s a.number.0)) o.number.0 t in
    let l =
    looks_late in_range (head ++ line bad 10 ∷ []) (listened s a.number.0 bad) a.frame.now (capacity_all sh) 0 0 {B = Link} z (Err r)
    (rw (← d) c.in_err-look_soft.ensures.number) in
    rw (p.1, p.2) (search (link_refused s a.number.0 a.frame.now k r l.0 l.1))
