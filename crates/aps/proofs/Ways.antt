-- The ways in which opening and sealing an APS frame end, each once: what holds of every way out holds of the request.
-- Assumes nothing.
use Rattle.std.proofs.Common.{Option, Some, None}
use mathlib.Core.Path.{◌≡◌, refl}
use mathlib.Core.Bool.{true}
use mathlib.Core.List.{List}
use Prim.Native.Nat.{ℕ, ◌+◌, ◌<◌, ◌≤◌}
use native.Mathlib.Omega.{arith}
use lib.Dec.{eqb, ltb}
use lib.ListN.{length}
use borrow.Author.Tests.{eqb-false, ltb-false}
use Rattle.settings.specs.Settings.{Settings, longest, longest_aps, aps_aux, top, longest_aps_plain}
use Rattle.octets.specs.Keys.{the_key}
use Rattle.octets.specs.Lists.{onto}
use Rattle.octets.proofs.Choices.{choose}
use Rattle.answers.specs.Numbers.{clear, under, opened, sealed, turned_down}
use Rattle.cipher.specs.Ccm.{Verdict, valid, invalid}
use Rattle.frames.specs.declared.Layer.TheVariants.{Aps}
use Rattle.frames.specs.declared.Secured.{Secured}
use Rattle.frames.specs.Security.{identifier_of}
use Rattle.frames.specs.Reading.{Reading, refused, plain, secured, reading, PlainReading, unread, headed, reading_plain}
use Rattle.board.specs.declared.Board.{Board}
use Rattle.board.specs.State.{link_at, pairs}
use Rattle.board.specs.Requests.{link_of}
use Rattle.board.specs.Sending.{spent, Framed, framed}
use Rattle.board.proofs.Found.{first_found}
use Rattle.board.proofs.Sends.{by-sending}
use Rattle.seals.specs.Sealing.{message_of, plain_frame, sealed_frame}
use Rattle.seals.proofs.Securing.{sealed-length}
use Rattle.aps.specs.Keys.{key_for}
use Rattle.aps.specs.Opening.{with_floor, key_named, admitted, opened_under, opened_keyed, opened_read, open_aps}
use Rattle.aps.specs.Sealing.{named, sealed_under, sealed_for, sealed_read, seal_aps}
use Rattle.aps.proofs.Sends.{sent-named, plain-bounds}

-- ---- opening

-- a secured frame that passes every check, under entry i: read; 6; 7; 8; 9
pub record Passed (z : Settings) (b : Board) (f : List ℕ) (given : ℕ) (s : Secured) (i : ℕ) : Type 0 where
  pub read : reading z Aps f given ≡ secured s
  pub found : link_of b.links s.sender ≡ Some i
  pub below : s.counter ≡ top → ⊥
  pub least : (link_at b.links i).floor ≤ s.counter
  pub message : List ℕ
  pub fits : message_of z (key_named (link_at b.links i) s) f s ≡ valid message

module _ (z : Settings) (b : Board) (f : List ℕ) (given : ℕ) (o : List ℕ) where
  pub open-ways : (P : Framed → Type 0) → ((n : ℕ) → P (framed (turned_down n) b o))
      → ((n : ℕ) → reading z Aps f given ≡ plain n → P (framed (opened (length f) 0 clear) b (onto f o)))
      → ((s : Secured) (i : ℕ) (t : Passed z b f given s i)
      → P (framed (opened (s.header + length t.message) s.sender (under (identifier_of s.control)))
      (with_floor b i (s.counter + 1)) (onto (plain_frame Aps f s t.message) o)))
      → P (open_aps z b f given o)
  unfolding open_aps opened_read opened_keyed opened_under admitted
  open-ways P down unsecured passed =
      choose P (ltb (length o) longest) _ _ (λ _. down 1) λ _.
      choose P (ltb longest_aps (length f)) _ _ (λ _. down 2) λ _.
      read (reading z Aps f given) refl
    where
      admit : (s : Secured) (i : ℕ) → reading z Aps f given ≡ secured s → link_of b.links s.sender ≡ Some i
          → (s.counter ≡ top → ⊥) → (link_at b.links i).floor ≤ s.counter
          → (w : Verdict) → message_of z (key_named (link_at b.links i) s) f s ≡ w → P (admitted b f s o i w)
      admit s i e q t h invalid d = down 9
      admit s i e q t h (valid m) d = passed s i (record { read = e; found = q; below = t; least = h; message = m; fits = d })

      keyed : (s : Secured) → reading z Aps f given ≡ secured s → (p : Option ℕ) → link_of b.links s.sender ≡ p
          → P (opened_keyed z b f s o p)
      keyed s e None q = down 6
      keyed s e (Some i) q =
          choose P (eqb s.counter top) _ _ (λ _. down 7) λ t.
          choose P (ltb s.counter (link_at b.links i).floor) _ _ (λ _. down 8) λ h.
          admit s i e q (eqb-false _ _ t) (ltb-false _ _ h) (message_of z (key_named (link_at b.links i) s) f s) refl

      read : (r : Reading) → reading z Aps f given ≡ r → P (opened_read z b f o r)
      read (refused n) e = down n
      read (plain n) e = unsecured n e
      read (secured s) e = keyed s e (link_of b.links s.sender) refl

-- ---- sealing

-- a plain frame that passes every check: 2; the header's length; 14; 6, with the partner's entry, which is present; 7; 17
pub record Sealing (z : Settings) (b : Board) (f : List ℕ) (a k : ℕ) : Type 0 where
  pub short : length f ≤ longest_aps_plain z
  pub header : ℕ
  pub unsecured : reading_plain Aps f ≡ headed header
  pub identified : named k ≡ true
  pub entry : ℕ
  pub partner : link_of b.links a ≡ Some entry
  pub paired : pairs (link_at b.links entry) a ≡ true
  pub below : b.outgoing ≡ top → ⊥
  pub marked : b.outgoing < b.mark

module _ {z : Settings} {b : Board} {f : List ℕ} {a k : ℕ} where
  -- the secured frame: under the key that the identifier names of that entry, with the board's counter and address
  abbrev pub frame_by : Sealing z b f a k → List ℕ
  frame_by s =
      sealed_frame z (key_for (the_key (link_at b.links s.entry).key) k) Aps k b.outgoing b.own 0 f s.header

  pub frame-length : (s : Sealing z b f a k) → length (frame_by s) ≡ length f + (aps_aux + z.tag)
  frame-length s =
      omega (
        arith,
        sealed-length z (key_for (the_key (link_at b.links s.entry).key) k) Aps k b.outgoing b.own 0 f s.header
            (plain-bounds f s.header s.unsecured).1,
        sent-named k s.identified,
      )

module _ (z : Settings) (b : Board) (f : List ℕ) (a k : ℕ) (o : List ℕ) where
  -- the entry that was found is present and the partner's
  entry-pairs : (i : ℕ) → link_of b.links a ≡ Some i → pairs (link_at b.links i) a ≡ true
  unfolding link_of
  entry-pairs i e = (first_found (λ x. pairs (link_at b.links x) a) 8 0 i e).passes

  pub seal-ways : (P : Framed → Type 0) → ((n : ℕ) → P (framed (turned_down n) b o))
      → ((s : Sealing z b f a k) → P (framed (sealed (length (frame_by s))) (spent b) (onto (frame_by s) o)))
      → P (seal_aps z b f a k o)
  unfolding seal_aps sealed_read sealed_for sealed_under
  seal-ways P down made =
      choose P (ltb (length o) longest) _ _ (λ _. down 1) λ _.
      choose P (ltb (longest_aps_plain z) (length f)) _ _ (λ _. down 2) λ q.
      read (ltb-false (longest_aps_plain z) (length f) q) (reading_plain Aps f) refl
    where
      for : (h : ℕ) → reading_plain Aps f ≡ headed h → length f ≤ longest_aps_plain z → named k ≡ true → (x : Option ℕ)
          → link_of b.links a ≡ x → P (sealed_for z b f o h k x)
      for h e d y None l = down 6
      for h e d y (Some i) l =
          by-sending P b _ o down λ t u.
          made
          (record {
            short = d;
            header = h;
            unsecured = e;
            identified = y;
            entry = i;
            partner = l;
            paired = entry-pairs i l;
            below = t;
            marked = u;
          })

      read : length f ≤ longest_aps_plain z → (x : PlainReading) → reading_plain Aps f ≡ x → P (sealed_read z b f a k o x)
      read d (unread n) e = down n
      read d (headed h) e = choose P (named k) _ _ (λ y. for h e d y (link_of b.links a) refl) (λ _. down 14)
