use Rattle.run.proofs.Turn.{pass_first, passed_lost, passed_stale, passed_goal, passed_expanded, ended_drained, ended_cut, ended_states, ended_expansions}
use Rattle.run.proofs.run.Goals as goal

pub turns-init : goal.turns-init
turns-init c = search pass_first

pub turns-preserved-in_default : goal.turns-preserved-in_default
turns-preserved-in_default c = search passed_lost

pub turns-preserved-then-node-e : goal.turns-preserved-then-node-e
turns-preserved-then-node-e c = search passed_stale

pub turns-preserved-then-same : goal.turns-preserved-then-same
turns-preserved-then-same c =
    passed_goal c.args.question.now.asked.accepted.bounds c.turns.invariant c.take-e.ensures c.recall.ensures
    c.in-Some.is c.if-node-e.false c.same.ensures c.if-same.true c.goal_drawn-held.ensures

pub turns-preserved : goal.turns-preserved
turns-preserved c =
    passed_expanded c.args.question.now.asked.accepted.bounds c.turns.invariant c.take-e.ensures c.recall.ensures
    c.in-Some.is c.if-node-e.false c.same.ensures c.if-same.false c.cut.ensures c.if-cut.false c.states.ensures c.over.ensures c.if-over.false
    c.if-limits-count.false c.expand_drawn-at.ensures

pub returns-then-at-eq0 : goal.returns-then-at-eq0
returns-then-at-eq0 c = search ended_drained

pub returns-then-cut : goal.returns-then-cut
returns-then-cut c =
    ended_cut c.args.question.now.asked.accepted.bounds c.turns.invariant c.take-e.ensures c.recall.ensures
    c.in-Some.is c.if-node-e.false c.same.ensures c.if-same.false c.cut.ensures c.if-cut.true

pub returns-then-over : goal.returns-then-over
returns-then-over c =
    ended_states c.args.question.now.asked.accepted.bounds c.turns.invariant c.take-e.ensures c.recall.ensures
    c.in-Some.is c.if-node-e.false c.same.ensures c.if-same.false c.cut.ensures c.if-cut.false c.states.ensures c.over.ensures c.if-over.true

pub returns-then-limits-count : goal.returns-then-limits-count
returns-then-limits-count c =
    ended_expansions c.args.question.now.asked.accepted.bounds c.turns.invariant c.take-e.ensures c.recall.ensures
    c.in-Some.is c.if-node-e.false c.same.ensures c.if-same.false c.cut.ensures c.if-cut.false c.states.ensures c.over.ensures c.if-over.false
    c.if-limits-count.true
