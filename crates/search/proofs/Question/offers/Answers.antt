use Rattle.costs.specs.declared.Step.TheVariants.{Pop}
use Rattle.search.proofs.Laws.{offered_first, offered_next}
use Rattle.search.proofs.Question.offers.Goals as goal

pub loop-step-init : goal.loop-step-init
loop-step-init c = offered_first c.args.self.now _ _ c.args.steps.now _ _ _ _ _ c.requires.room

pub loop-step-preserved : goal.loop-step-preserved
loop-step-preserved c =
    offered_next c.args.self.now _ _ c.args.steps.now _ _ _ _ _ _ _ c.loop-step.invariant Pop c.loop-step-test.true _ (c.follow.ensures _ _ c.requires.stands) _ _ _ _ c.offer-at.ensures
