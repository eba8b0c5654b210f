-- What was made, or refused, by what is told of it or taken out of it.
-- Assumes nothing.
use Rattle.std.proofs.Common.{◌≡◌, ℕ, List, Option, Some, None, Result, Ok, Err, refl, ap, arith}
use Rattle.std.specs.Result.{result_ok}
use Rattle.cipher.specs.declared.Fault.{Fault}
use Rattle.cipher.specs.Answers.{number, Product, product, made, refused, hashed}

-- what is told as a hash is that hash
pub hash-made : (r : Result (List ℕ) Fault) (h : List ℕ) → hashed r ≡ product (made 16) h → r ≡ Ok h
hash-made (Ok g) h e = ap Ok (ap (λ (x : Product). x.octets) e)
hash-made (Err f) h e =
    let u : refused (number f) ≡ made 16 = ap (λ (x : Product). x.answer) e in
    let never : ◌≡◌ {A = ℕ} 0 1 = cc in
    absurd (omega arith)

-- `r.ok()`, by what it is
pub ok-was : (r : Result ℕ Fault) (n : ℕ) → result_ok r ≡ Some n → r ≡ Ok n
ok-was (Ok m) n e = let q : m ≡ n = cc in ap Ok q
ok-was (Err f) n e = let never : ◌≡◌ {A = ℕ} 0 1 = cc in absurd (omega arith)

pub err-was : (r : Result ℕ Fault) → result_ok r ≡ None → (f : Fault) × (r ≡ Err f)
err-was (Ok m) e = let never : ◌≡◌ {A = ℕ} 0 1 = cc in absurd (omega arith)
err-was (Err f) e = (f, refl)
