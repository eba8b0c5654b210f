-- What is supposed of the host is needed, each half of it: with a host that tells the board a mark that it did not store, and with one
-- that stores an older mark, there is a log in which our own board seals two frames with the same counter. And the mark must be above
-- the counter of what is sealed: a board that seals at its mark does not meet the statement, though the host writes and tells nothing.
-- What is supposed can be met: there is a log in which it is, with a cut between two frames that are sealed.
-- Assumes nothing.
use mathlib.Core.Path.{◌≡◌, refl, ap, ◌∙◌}
use mathlib.Core.Bool.{true, false}
use mathlib.Core.List.{List, [], ◌∷◌}
use Prim.Native.Nat.{ℕ, ◌+◌, ◌-◌, min}
use native.Mathlib.Omega.{arith}
use lib.ListN.{length, take, drop, replicate}
use lib.Seq.{take_at}
use Rattle.settings.specs.Settings.{ours, longest}
use Rattle.octets.specs.Addresses.{no_address}
use Rattle.octets.specs.Keys.{Key, the_key}
use Rattle.octets.specs.Least.{number_at}
use Rattle.octets.specs.Lists.{onto, Octets}
use Rattle.octets.proofs.AllOctets.{nil-octets, cons-octets}
use Rattle.history.specs.Calls.{Call, install, switch, sealing, next_mark, marked, to_seal}
use Rattle.history.specs.Deeds.{Deed, called, wrote, cut, Replies, log, stored, SealsOctets, writes_answered, tells_stored}
use Rattle.history.specs.Events.{SentFrame, sent_in}
use Rattle.history.specs.Story.{story}
use Rattle.history.specs.Statement.{readings, rising, First}
use Rattle.history.specs.Running.{Held, held, Step, to, step, start, replies}
use Rattle.history.proofs.Searches.{clash}
use Rattle.frames.specs.declared.Layer.TheVariants.{Network}
use Rattle.frames.specs.Reading.{Reading, secured, headed, read_header, reading, reading_plain}
use Rattle.frames.specs.Network.{network_control, network_form, network_secured, network_base, network_header}
use Rattle.board.specs.Mark.{with_mark}
use Rattle.board.specs.Mark as marks
use Rattle.board.specs.Places.{first_at}
use Rattle.board.specs.Requests as requests
use Rattle.board.specs.Rows.{legal, lists_fit, freed}
use Rattle.board.specs.Sending.{spent, may_send, send}
use Rattle.board.specs.State.{zero_key, carries}
use Rattle.network.specs.Sealing.{sealed_under, sealed_by, sealed_read, seal_network}
use Rattle.seals.specs.Sealing.{sealed_frame}
use Rattle.seals.proofs.Again.{ToSeal, announcing, read_again}

-- ---- a board with address 1 and lists of two rows, on a new store, and a frame of eight octets, which is all header

abbrev board : Replies
board = replies ours 2 1 0

abbrev key : Key
key = the_key zero_key

abbrev plain-frame : List ℕ
plain-frame = 0x08 ∷ 0 ∷ 0 ∷ 0 ∷ 0 ∷ 0 ∷ 0x1e ∷ 1 ∷ []

abbrev output : List ℕ
output = replicate longest 0

abbrev seal : Deed Call
seal = called (sealing Network plain-frame 0 0 output)

-- what it hands out when its counter is c
abbrev frame : ℕ → List ℕ
frame c = sealed_frame ours key Network 1 c 1 0 plain-frame 8

abbrev sent-frame : ℕ → SentFrame
sent-frame c = record { layer = Network; plain = plain-frame; octets = take (length (frame c)) (onto (frame c) output) }

-- ---- what it seals

reads_plain : reading_plain Network plain-frame ≡ headed 8
unfolding reading_plain read_header number_at network_control network_form network_secured network_base network_header
reads_plain = refl

octets : Octets plain-frame
octets =
    cons-octets _ _ (omega arith) (cons-octets _ _ (omega arith) (cons-octets _ _ (omega arith) (cons-octets _ _ (omega arith)
    (cons-octets _ _ (omega arith) (cons-octets _ _ (omega arith) (cons-octets _ _ (omega arith) (cons-octets _ _ (omega arith)
    nil-octets)))))))

to-seal : ToSeal Network plain-frame 8 1 0 1
unfolding no_address
to-seal =
    record { unsecured = reads_plain; octets = octets; suited = refl; counter = omega arith; sender = omega arith; someone = refl }

-- of the first, its receiver reads counter 0
reads-sealed : reading ours Network (sent-frame 0).octets 0 ≡ secured (announcing 8 1 0 1 0)
reads-sealed =
    ap (λ (g : List ℕ). reading ours Network g 0) (take_at (frame 0) (drop (length (frame 0)) output) (length (frame 0)) refl)
    ∙ read_again ours key 0 to-seal 0

-- the same counter twice does not rise
never-rises : rising (readings ours (sent-frame 0 ∷ sent-frame 0 ∷ [])) ≡ false
never-rises = ap (λ (r : Reading). rising (r ∷ r ∷ [])) reads-sealed

-- ---- four logs: in each the board starts twice, and both times seals a frame

-- keys, and what comes before a frame is sealed
abbrev sealing-after : (List (Deed Call) → List (Deed Call)) → List (Deed Call) → List (Deed Call)
sealing-after before ds = seal ∷ before (called (switch 0) ∷ called (install 0 0 key) ∷ ds)

-- a host that tells the board a mark that it did not store
abbrev unstored : List (Deed Call)
unstored = sealing-after tell (cut ∷ sealing-after tell [])
  where
    tell : List (Deed Call) → List (Deed Call)
    tell ds = called (marked 1024) ∷ ds

-- the step to m as it should be
abbrev step-to : ℕ → List (Deed Call) → List (Deed Call)
step-to m ds = called (marked m) ∷ wrote m ∷ called next_mark ∷ ds

-- a host that does its steps well, and then stores an older mark, which it found at first
abbrev older : List (Deed Call)
older = sealing-after (step-to 1024) (cut ∷ wrote 0 ∷ sealing-after (step-to 1024) [])

-- one that does all well
abbrev well-done : List (Deed Call)
well-done = sealing-after (step-to 2048) (cut ∷ sealing-after (step-to 1024) [])

-- one that writes and tells nothing
abbrev idle : List (Deed Call)
idle = sealing-after (λ ds. ds) (cut ∷ sealing-after (λ ds. ds) [])

-- ---- a board that seals at its mark: to seal, it takes its mark as one more

abbrev seals-at : Call → ℕ
seals-at c = min 1 (length (to_seal c))

abbrev eager-step : Call → Held → Step
eager-step c x = back (step ours c (held (with_mark x.board (x.board.mark + seals-at c)) x.lists))
  where
    back : Step → Step
    back y = to y.reply (held (with_mark y.after.board (y.after.board.mark - seals-at c)) y.after.lists)

abbrev eager-run : List (Deed Call) → Held
eager-run [] = start 2 1 0
eager-run (called c ∷ ds) = (eager-step c (eager-run ds)).after
eager-run (wrote m ∷ ds) = eager-run ds
eager-run (cut ∷ ds) = start 2 1 (stored 0 ds)

abbrev eager : Replies
eager ds c = (eager-step c (eager-run ds)).reply

-- ---- what they seal

abbrev Twice : Replies → List (Deed Call) → Type 0
Twice r ds = sent_in (story ours (log r ds)) ≡ sent-frame 0 ∷ sent-frame 0 ∷ []

-- what is supposed of the host, and that it does not keep a board from sealing: after the cut, at the mark
abbrev Well : Type 0
Well =
    (writes_answered (log board well-done) ≡ true) × ((tells_stored 0 (log board well-done) ≡ true)
    × (sent_in (story ours (log board well-done)) ≡ sent-frame 1024 ∷ sent-frame 0 ∷ []))

all-four : (Twice board unstored × (Twice board older × Twice eager idle)) × Well
unfolding requests.make no_address requests.install lists_fit legal carries requests.holds freed requests.switch requests.slot_of first_at
    marks.move_mark marks.next_mark seal_network sealed_read sealed_by sealed_under send may_send spent
    reading_plain read_header number_at network_control network_form network_secured network_base network_header
all-four = ((refl, (refl, refl)), (refl, (refl, refl)))

pub host-can : Well
host-can = all-four.1

twice-falls : (r : Replies) (ds : List (Deed Call)) → Twice r ds → rising (readings ours (sent_in (story ours (log r ds)))) ≡ false
twice-falls r ds e = ap (λ (l : List SentFrame). rising (readings ours l)) e ∙ never-rises

-- "tells the board only what its store holds" can't be left out
pub tells-needed : ((ds : List (Deed Call)) → SealsOctets ds → writes_answered (log board ds) ≡ true
    → rising (readings ours (sent_in (story ours (log board ds)))) ≡ true) → ⊥
tells-needed all = clash (all unstored octets-all refl) (twice-falls board unstored all-four.0.0)
  where
    octets-all : SealsOctets unstored
    octets-all = (octets, (nil-octets, (nil-octets, (nil-octets, (octets, (nil-octets, (nil-octets, (nil-octets, nil-octets))))))))

-- nor can "writes there only the next mark last answered"
pub writes-needed : ((ds : List (Deed Call)) → SealsOctets ds → tells_stored 0 (log board ds) ≡ true
    → rising (readings ours (sent_in (story ours (log board ds)))) ≡ true) → ⊥
writes-needed all = clash (all older octets-all refl) (twice-falls board older all-four.0.1.0)
  where
    octets-all : SealsOctets older
    octets-all =
        (octets, (nil-octets, (nil-octets, (nil-octets, (nil-octets, (octets, (nil-octets, (nil-octets, (nil-octets, (nil-octets, nil-octets))))))))))

-- and a board that seals at its mark does not meet the statement
pub mark-above : First ours 0 eager → ⊥
mark-above meets = clash (meets idle octets-all refl refl) (twice-falls eager idle all-four.0.1.1)
  where
    octets-all : SealsOctets idle
    octets-all = (octets, (nil-octets, (nil-octets, (octets, (nil-octets, (nil-octets, nil-octets))))))
