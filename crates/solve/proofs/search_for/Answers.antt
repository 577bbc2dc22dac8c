use Rattle.solve.proofs.Answer.{searched_all}
use Rattle.solve.proofs.search_for.Goals as goal

pub returns : goal.returns
returns c =
    let x = c.args.question.now in
    searched_all _ _ _ x.asked.accepted.bounds x.ready.listed c.requires.most_bound _ _ _ _ _ c.go-left.ensures _ _ _ c.read_plan.ensures
