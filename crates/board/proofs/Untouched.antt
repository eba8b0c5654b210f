-- What the requests leave alone, said once for the history: the own address, both counters and the mark stay under every request
-- that changes keys; network requests leave the link entries, link requests the slots and the active mark.
-- Assumes nothing.
use Rattle.std.proofs.Common.{Option, Some, None}
use mathlib.Core.Path.{◌≡◌, refl}
use mathlib.Core.Bool.{not}
use Prim.Native.Nat.{ℕ, ◌-◌}
use lib.Dec.{eqb, ltb}
use Rattle.octets.proofs.Choices.{choose}
use Rattle.octets.specs.Addresses.{no_address}
use Rattle.octets.specs.Lists.{eq_list}
use Rattle.octets.specs.Keys.{Key}
use Rattle.board.specs.declared.Board.{Board}
use Rattle.board.specs.Rows.{Lists, lists_fit}
use Rattle.board.specs.State.{slot_at, link_at, carries, no_link, with_slot, with_link}
use Rattle.board.specs.Requests.{Left, Changed, holds, installed, install, slot_of, switch_to, switch}
use Rattle.board.specs.Requests.{link_of, free_link, added, add_new, add_to, add_link, remove_at, remove_link}

-- a network request's board beside the one before: all but the slots and the active mark
pub record KeptByNetwork (b c : Board) : Type 0 where
  pub own : c.own ≡ b.own
  pub outgoing : c.outgoing ≡ b.outgoing
  pub mark : c.mark ≡ b.mark
  pub aps : c.aps ≡ b.aps
  pub links : c.links ≡ b.links

-- a link request's: all but the link entries
pub record KeptByLinks (b c : Board) : Type 0 where
  pub own : c.own ≡ b.own
  pub outgoing : c.outgoing ≡ b.outgoing
  pub mark : c.mark ≡ b.mark
  pub aps : c.aps ≡ b.aps
  pub slots : c.slots ≡ b.slots
  pub active : c.active ≡ b.active

-- whatever was put into one slot, or made active, or put into one entry
slot_kept : (b : Board) (i : ℕ) (s : _) → KeptByNetwork b (with_slot b i s)
slot_kept b i s = record { own = refl; outgoing = refl; mark = refl; aps = refl; links = refl }

same-network : (b : Board) → KeptByNetwork b b
same-network b = record { own = refl; outgoing = refl; mark = refl; aps = refl; links = refl }

same-links : (b : Board) → KeptByLinks b b
same-links b = record { own = refl; outgoing = refl; mark = refl; aps = refl; slots = refl; active = refl }

link-kept : (b : Board) (i : ℕ) (l : _) → KeptByLinks b (with_link b i l)
link-kept b i l = record { own = refl; outgoing = refl; mark = refl; aps = refl; slots = refl; active = refl }

pub install-keeps : (b : Board) (w : Lists) (i n : ℕ) (k : Key) → KeptByNetwork b (install b w i n k).board
unfolding install
install-keeps b w i n k =
    choose K (not (lists_fit w)) _ _ (λ _. same-network b) λ _.
    choose K (ltb 1 i) _ _ (λ _. same-network b) λ _.
    choose K (carries (slot_at b.slots (1 - i)) n) _ _ (λ _. same-network b) λ _.
    choose K (holds (slot_at b.slots i) n k) _ _ (λ _. same-network b) λ _.
    slot_kept b i (installed n k)
  where
    K : Left → Type 0
    K r = KeptByNetwork b r.board

pub switch-keeps : (b : Board) (n : ℕ) → KeptByNetwork b (switch b n).board
unfolding switch
switch-keeps b n = go (slot_of b.slots n)
  where
    go : (p : Option ℕ) → KeptByNetwork b (switch_to b p).board
    go (Some i) = record { own = refl; outgoing = refl; mark = refl; aps = refl; links = refl }
    go None = same-network b

-- switching moves no key either
pub switch-slots : (b : Board) (n : ℕ) → (switch b n).board.slots ≡ b.slots
unfolding switch
switch-slots b n = go (slot_of b.slots n)
  where
    go : (p : Option ℕ) → (switch_to b p).board.slots ≡ b.slots
    go (Some i) = refl
    go None = refl

pub add-keeps : (b : Board) (a : ℕ) (k : Key) → KeptByLinks b (add_link b a k).board
unfolding add_link
add-keeps b a k = choose K (no_address a) _ _ (λ _. same-links b) λ _. place (link_of b.links a)
  where
    K : Changed → Type 0
    K r = KeptByLinks b r.board

    new : (p : Option ℕ) → K (add_new b a k p)
    new (Some i) = link-kept b i (added a k)
    new None = same-links b

    place : (p : Option ℕ) → K (add_to b a k p)
    place (Some i) = choose K (eq_list (link_at b.links i).key k.octets) _ _ (λ _. same-links b) λ _. link-kept b i (added a k)
    place None = new (free_link b.links)

pub remove-keeps : (b : Board) (a : ℕ) → KeptByLinks b (remove_link b a).board
unfolding remove_link
remove-keeps b a = choose K (eqb a 0) _ _ (λ _. same-links b) λ _. place (link_of b.links a)
  where
    K : Changed → Type 0
    K r = KeptByLinks b r.board

    place : (p : Option ℕ) → K (remove_at b p)
    place (Some i) = link-kept b i no_link
    place None = same-links b
