-- A key is one whole block: once it is taken in, what is left is d, padded with 16 more octets in its count.
use Rattle.cipher.proofs.Pads.{hash-behind}
use Rattle.cipher.proofs.mmo.hash_behind.Goals as goal

pub returns : goal.returns
returns c =
    let x = c.args in
    hash-behind x.k x.d.now _ _ _ x.x c.plus_each.ensures c.hash_in-h.ensures c.hash_from.ensures
