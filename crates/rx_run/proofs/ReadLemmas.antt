-- What reads one after another do to known bytes.
use Rattle.std.proofs.Common.{◌≡◌, ℕ, ◌≤◌, List, ◌++◌, Option, Some, None, IfSome, length, take, drop, sym}
use Rattle.std.proofs.Common.{ap, ◌∙◌, append_assoc, append-nil, take_all, take_at, take-append-drop}
use Rattle.std.proofs.lemmas.List.{append_cancel_left}
use Rattle.std.specs.Io.KnownBytes.{Consumes, IsAtEnd}

-- two reads are one
pub consumes_both : (old between new : Option (List ℕ)) (xs ys : List ℕ) → Consumes old between xs → Consumes between new ys → Consumes old new (xs ++ ys)
consumes_both None _ _ xs ys h k = tt
consumes_both (Some a) None _ xs ys h k = absurd h
consumes_both (Some a) (Some b) None xs ys h k = absurd k
consumes_both (Some a) (Some b) (Some c) xs ys h k = h ∙ ap (λ z. xs ++ z) k ∙ sym (append_assoc xs ys c)

-- what was read to the end is all
pub reads_all : (old new : Option (List ℕ)) (text : List ℕ) (n : ℕ) → Consumes old new text → IsAtEnd new → length text ≤ n
    → IfSome old (λ bytes. text ≡ take n bytes)
reads_all None _ text n h k l = tt
reads_all (Some a) None text n h k l = absurd h
reads_all (Some a) (Some b) text n h k l =
    let e : a ≡ text = h ∙ ap (λ z. text ++ z) k ∙ append-nil text in
    sym (take_all n text l) ∙ ap (take n) (sym e)

-- what was read up to a length is the front of that length
pub reads_front : (old new : Option (List ℕ)) (text : List ℕ) (n : ℕ) → Consumes old new text → length text ≡ n → IfSome old (λ bytes. text ≡ take n bytes)
reads_front None _ text n h l = tt
reads_front (Some a) None text n h l = absurd h
reads_front (Some a) (Some b) text n h l = sym (take_at text b n l) ∙ ap (take n) (sym h)

-- what was read is the front of a length, and the rest is left
pub reads_out : (old new : Option (List ℕ)) (text : List ℕ) (n : ℕ) → Consumes old new text → IfSome old (λ bytes. text ≡ take n bytes)
    → IfSome old (λ bytes. new ≡ Some (drop n bytes))
reads_out None _ text n h k = tt
reads_out (Some a) None text n h k = absurd h
reads_out (Some a) (Some b) text n h k =
    ap Some (append_cancel_left (take n a) b (drop n a) (ap (λ z. z ++ b) (sym k) ∙ sym h ∙ sym (take-append-drop n a)))
