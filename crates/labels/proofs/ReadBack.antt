-- Reading a printed label gives its code and its link key: whatever the style, and so too of what the writer leaves in the output.
-- Assumes nothing.
use mathlib.Core.Path.{◌≡◌, refl, sym, ap, ◌∙◌}
use mathlib.Core.Bool.{Bool, true, false}
use mathlib.Core.List.{List}
use Prim.Native.Nat.{ℕ, ◌+◌, ◌-◌}
use native.Mathlib.Omega.{arith}
use lib.Dec.{leb}
use lib.ListN.{length, take, drop}
use lib.Seq.{take_at}
use Rattle.std.specs.Prelude.{if◌then◌else◌}
use Rattle.octets.specs.Least.{spelled}
use Rattle.octets.specs.Lists.{at, tab, eq_list, onto, Octets}
use Rattle.octets.proofs.AllOctets.{append-octets}
use Rattle.octets.proofs.Compared.{same_self, same-equal}
use Rattle.octets.proofs.Numbers.{spelled-octets}
use Rattle.labels.specs.Crc.{crc}
use Rattle.labels.specs.Codes.{code_length, with_crc, link_key}
use Rattle.labels.specs.Spelling.{Style, in_print}
use Rattle.labels.specs.Answers.{coded, printed, refused, Reading, reading, no_code}
use Rattle.labels.specs.Reading.{code_in, judged, read_label}
use Rattle.labels.specs.Printing.{as_printed, label_text, Printing, printing, print_label}
use Rattle.labels.proofs.Prints.{length-with}
use Rattle.labels.proofs.Styles.{any-style}

-- a code and its key, as the reader hands them back
abbrev pub good : List ℕ → Reading
good c = reading (coded (length c)) (tab 16 (at c)) (link_key c)

pub with-octets : (c : List ℕ) → Octets c → Octets (with_crc c)
unfolding with_crc
with-octets c o = append-octets c (spelled 2 (crc c)) o (spelled-octets 2 (crc c))

-- the code of a code with its CRC
pub code-back : (c : List ℕ) → code_in (with_crc c) ≡ c
unfolding code_in with_crc
code-back c =
    let n : length (with_crc c) - 2 ≡ length c = omega (arith, length-with c) in
    ap (λ (k : ℕ). take k (with_crc c)) n ∙ take_at c (spelled 2 (crc c)) (length c) refl

whole-judged : (c : List ℕ) → code_length (length c) ≡ true → judged (with_crc c) ≡ good c
unfolding judged
whole-judged c e =
    let n : length (with_crc c) - 2 ≡ length c = omega (arith, length-with c) in
    rw (n, e, code-back c, same_self (with_crc c))

-- in any style
pub style-back : (p : Style) (c : List ℕ) → Octets c → code_length (length c) ≡ true → read_label (in_print p (with_crc c)) ≡ good c
style-back p c o e = any-style p (with_crc c) (with-octets c o) ∙ whole-judged c e

-- what the writer left, as many octets of it as it told
pub read_back : (c o : List ℕ) (n : ℕ) → Octets c → (print_label c o).told ≡ printed n → read_label (take n (print_label c o).out) ≡ good c
unfolding print_label label_text
read_back c o n b e = go (code_length (length c)) refl (leb (length (label_text c)) (length o)) e
  where
    answered : Bool → Bool → Printing
    answered t u =
        if t
        then (if u then printing (printed (length (label_text c))) (onto (label_text c) o) else printing (refused 1) o)
        else printing (refused 15) o

    never : {A : Type 0} (k : ℕ) → refused k ≡ printed n → A
    never k q = let z : ◌≡◌ {A = ℕ} 0 1 = cc in absurd (omega arith)

    go : (t : Bool) → code_length (length c) ≡ t → (u : Bool) → (answered t u).told ≡ printed n → read_label (take n (answered t u).out) ≡ good c
    go true p true q =
        let m : length (label_text c) ≡ n = cc in
        ap read_label (take_at (label_text c) (drop (length (label_text c)) o) n m) ∙ style-back as_printed c b p
    go true p false q = never 1 q
    go false p u q = never 15 q

-- ---- what a good label holds

-- a code of an allowed length and its CRC
pub record Holds (o : List ℕ) : Type 0 where
  pub long : code_length (length o - 2) ≡ true
  pub whole : o ≡ with_crc (code_in o)

pub judged-holds : (o : List ℕ) (n : ℕ) → (judged o).told ≡ coded n → Holds o
unfolding judged
judged-holds o n e = go (code_length (length o - 2)) refl (eq_list o (with_crc (code_in o))) refl e
  where
    answered : Bool → Bool → Reading
    answered t u =
        if t
        then (if u then reading (coded (length o - 2)) (tab 16 (at (code_in o))) (link_key (code_in o)) else no_code 16)
        else no_code 15

    never : {A : Type 0} (k : ℕ) → refused k ≡ coded n → A
    never k q = let z : ◌≡◌ {A = ℕ} 0 1 = cc in absurd (omega arith)

    go : (t : Bool) → code_length (length o - 2) ≡ t → (u : Bool) → eq_list o (with_crc (code_in o)) ≡ u → (answered t u).told ≡ coded n → Holds o
    go true p true q r = record { long = p; whole = same-equal o (with_crc (code_in o)) q }
    go true p false q r = never 16 r
    go false p u q r = never 15 r

pub with-holds : (c : List ℕ) → code_length (length c) ≡ true → Holds (with_crc c)
with-holds c e =
    record {
      long = ap (λ n. code_length (n - 2)) (length-with c) ∙ ap code_length two ∙ e;
      whole = ap with_crc (sym (code-back c));
    }
  where
    two : length c + 2 - 2 ≡ length c
    two = omega arith
