use Rattle.std.proofs.Common.{rules}
use Rattle.vectors.proofs.Made.{made}
use Rattle.vectors.proofs.file.bytes.Goals as goal

pub returns : goal.returns
returns g c = made _ _ _ _ (λ i y q k. search rules) c.from_fn.ensures.items
