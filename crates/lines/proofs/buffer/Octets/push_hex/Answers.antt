-- What `text` laid behind the octets comes behind them, and what it has no room for is left out.
use Rattle.std.proofs.Common.{arith}
use Rattle.text.specs.Hex.{hex_of}
use Rattle.lines.proofs.Written.{laid}
use Rattle.lines.proofs.buffer.Octets.push_hex.Goals as goal

pub returns : goal.returns
returns g c =
    let x = c.args.self.now in
    laid x.octets x.n (hex_of c.args.src.now) c.put_hex-self.ensures (omega arith)
