-- The code's order is the order of the search.
use Rattle.std.proofs.Common.{◌≡◌, sym, ◌∙◌, arith}
use Rattle.std.proofs.lemmas.Bool.{cond-true, cond-false}
use Rattle.std.proofs.lemmas.Grind.{common_steps}
use Rattle.costs.specs.Cost.{no_more}
use Rattle.window.specs.State.{whole}
use Rattle.astar.specs.Cost.{lex}
use Rattle.face.specs.Open.{no_later, lesser_at}
use Rattle.face.proofs.Order.{no_later_is}
use Rattle.face.proofs.lesser.Goals as goal

pub returns-then-le : goal.returns-then-le
unfolding lesser_at no_more whole lex
returns-then-le c =
    let is : c.le.result ≡ no_later c.args.a c.args.b = rw (no_later_is c.args.a c.args.b) (grind (arith, common_steps)) in
    sym (cond-true _ _ _ (sym is ∙ c.if-le.true))

pub returns-else-le : goal.returns-else-le
unfolding lesser_at no_more whole lex
returns-else-le c =
    let is : c.le.result ≡ no_later c.args.a c.args.b = rw (no_later_is c.args.a c.args.b) (grind (arith, common_steps)) in
    sym (cond-false _ _ _ (sym is ∙ c.if-le.false))
