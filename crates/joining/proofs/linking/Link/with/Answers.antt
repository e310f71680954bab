use mathlib.Core.Path.{sym, ap, ◌∙◌}
use Rattle.joining.specs.declared.Heard.{Heard}
use Rattle.joining.specs.Joining.{clipped_of}
use Rattle.joining.specs.Linked.{with_heard}
use Rattle.joining.proofs.linking.Link.with.Goals as goal

pub returns-in-Nothing : goal.returns-in-Nothing
unfolding clipped_of with_heard
returns-in-Nothing c =
    let a = c.args in
    sym (ap (λ (h : Heard). with_heard a.self a.before (clipped_of h)) c.in-Nothing.is)

pub returns-in-Once : goal.returns-in-Once
unfolding clipped_of with_heard
returns-in-Once c =
    let a = c.args in
    c.with_value.ensures ∙ sym (ap (λ (h : Heard). with_heard a.self a.before (clipped_of h)) c.in-Once.is)

pub returns-in-Joined : goal.returns-in-Joined
unfolding clipped_of with_heard
returns-in-Joined c =
    let a = c.args in
    c.with_value-in-Joined.ensures ∙ sym (ap (λ (h : Heard). with_heard a.self a.before (clipped_of h)) c.in-Joined.is)
