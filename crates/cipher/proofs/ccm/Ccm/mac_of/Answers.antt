-- B0 added to zeros is B0, so the chain starts with B0 enciphered; `absorb_led`, then `absorb_each`, take in the rest in order.
use Rattle.cipher.specs.Aes.{cipher}
use Rattle.cipher.proofs.Chains.{mac-of-calls}
use Rattle.cipher.proofs.ccm.Ccm.mac_of.Goals as goal

pub returns : goal.returns
returns c =
    let x = c.args in
    mac-of-calls (cipher x.self.now.key.keys) x.self.now.tag x.self.now.nonce x.a.now x.p.now _ _ _ _ _ c.flags_of.ensures
    c.field_of-first.ensures c.encipher-x.ensures c.absorb_led-y.ensures c.absorb_each.ensures
