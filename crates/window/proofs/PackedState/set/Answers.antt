-- `window::PackedState::set` meets its contract: the key that get gives is replaced.
use Rattle.window.proofs.PackedState.set.Goals as goal

pub replace-requires : goal.replace-requires
replace-requires c =
    let p = c.requires in
    ((p.0.0, p.0.1, p.0.2, c.get.ensures p.0.0 p.0.1 p.0.2), p.1)

pub returns : goal.returns
returns c = c.replace.ensures
