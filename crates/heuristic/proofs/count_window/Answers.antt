use Rattle.window.specs.Keys.{keys_of, keys_length}
use Rattle.window.specs.Laws.{key_lt}
use Rattle.window.specs.Written.{written_front}
use Rattle.heuristic.proofs.count_window.Goals as goal

pub count_list-requires : goal.count_list-requires
count_list-requires c =
    let w = c.write-n.ensures in
    rw (written_front c.args.state _ _ _ w.0 w.1) ((λ i l. key_lt 6 (keys_of c.args.state) i c.requires.0.keys), keys_length c.args.state, c.requires.1)
