use Rattle.window.specs.Keys.{keys_length}
use Rattle.window.specs.Written.{written_front}
use Rattle.successors.specs.Whole.{keyed}
use Rattle.successors.proofs.Asked.expand.Goals as goal

pub write-len-requires : goal.write-len-requires
write-len-requires c = (c.requires, keys_length c.args.state)

pub expand_keys-requires : goal.expand_keys-requires
expand_keys-requires c =
    let w = c.write-len.ensures in
    keyed c.args.state _ c.requires (written_front c.args.state _ _ _ w.0 w.1)
