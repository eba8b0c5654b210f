-- The stream is laid over as many octets as p has and the masked tag right behind, as the definition joins the two.
use Rattle.cipher.specs.Aes.{cipher}
use Rattle.cipher.proofs.Streams.{seal-by}
use Rattle.cipher.proofs.ccm.Ccm.seal.Goals as goal

pub returns : goal.returns
returns c =
    let x = c.args in
    let y = x.self.now in
    seal-by (cipher y.key.keys) y.tag y.nonce x.a.now x.p.now x.out.now _ _ _ _ y.short
    c.stream_into.ensures c.mac_of.ensures c.mask-t.ensures
    c.put_block.ensures
