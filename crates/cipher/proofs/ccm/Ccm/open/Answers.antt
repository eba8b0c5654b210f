-- `same` compares the two tags of `fits`: the scratch holds the plain message. Nothing is laid into out before they are equal.
use mathlib.Core.Path.{refl, ◌∙◌}
use lib.ListN.{replicate}
use Rattle.cipher.specs.Aes.{cipher}
use Rattle.cipher.proofs.Opens.{fits_by, opened-false, opened-true}
use Rattle.cipher.proofs.ccm.Ccm.open.Goals as goal

pub returns-then-not-same : goal.returns-then-not-same
returns-then-not-same c =
    let y = c.args in
    let z = y.self.now in
    let f = fits_by (cipher z.key.keys) z.tag z.nonce y.a.now y.c.now y.out.now z.short c.requires.whole
    (replicate 128 0) _ _ _ _ _ _
    c.stream_into.ensures c.mac_of-mac.ensures refl c.zero_padded.ensures
    c.mask-tag.ensures c.same.ensures in
    opened-false (cipher z.key.keys) z.tag z.nonce y.a.now y.c.now y.out.now z.short c.requires.whole
    (f ∙ c.if-not-same.true)

pub returns : goal.returns
returns c =
    let y = c.args in
    let z = y.self.now in
    let f = fits_by (cipher z.key.keys) z.tag z.nonce y.a.now y.c.now y.out.now z.short c.requires.whole
    (replicate 128 0) _ _ _ _ _ _
    c.stream_into.ensures c.mac_of-mac.ensures refl c.zero_padded.ensures
    c.mask-tag.ensures c.same.ensures in
    opened-true (cipher z.key.keys) z.tag z.nonce y.a.now y.c.now y.out.now z.short c.requires.whole
    (replicate 128 0) _ _ c.requires.room (f ∙ c.if-not-same.false) c.stream_into.ensures c.paste_at.ensures
