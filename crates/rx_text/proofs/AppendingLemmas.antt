-- What writes one after another do to known bytes.
use Rattle.std.proofs.Common.{◌≡◌, ℕ, ◌+◌, ◌-◌, ◌≤◌, arith, List, [], ◌++◌, Option, Some, None, Result, Ok, Err, OnErr, OnOk}
use Rattle.std.proofs.Common.{length, take, drop, sym, ap, ◌∙◌, append_assoc, append-nil, take-add, take-append-drop}
use Rattle.std.proofs.lemmas.List.{take_rest}
use Rattle.std.specs.Io.KnownBytes.{Appends, Keeps}
use Rattle.rx_text.specs.Written.{AppendsFront}

-- two writes are one
pub appends_both : (old between new : Option (List ℕ)) (xs ys : List ℕ) → Appends old between xs → Appends between new ys → Appends old new (xs ++ ys)
appends_both None _ _ xs ys h k = tt
appends_both (Some a) None _ xs ys h k = absurd h
appends_both (Some a) (Some b) None xs ys h k = absurd k
appends_both (Some a) (Some b) (Some c) xs ys h k = k ∙ ap (λ z. z ++ ys) h ∙ append_assoc a xs ys

-- bytes that stay grow by nothing
pub appends_none : (old new : Option (List ℕ)) → Keeps old new → Appends old new []
appends_none None _ h = tt
appends_none (Some a) None h = absurd h
appends_none (Some a) (Some b) h = h ∙ sym (append-nil a)

-- nothing of a text was taken
pub keeps_taken : (old new : Option (List ℕ)) (text : List ℕ) (n : ℕ) → n ≤ 0 → Appends old new (take n text) → Keeps old new
keeps_taken None _ text n z h = tt
keeps_taken (Some a) None text n z h = absurd h
keeps_taken (Some a) (Some b) text n z h = let none : n ≡ 0 = omega arith in let same : b ≡ a ++ [] = rw none at h in same ∙ append-nil a

-- one more piece of a text was written
pub appends_piece : (old between new : Option (List ℕ)) (text : List ℕ) (at n : ℕ) → Appends old between (take at text)
    → Appends between new (take n (take (length text - at) (drop at text))) → Appends old new (take (at + n) text)
appends_piece None _ _ text at n h k = tt
appends_piece (Some a) None _ text at n h k = absurd h
appends_piece (Some a) (Some b) None text at n h k = absurd k
appends_piece (Some a) (Some b) (Some c) text at n h k =
    appends_both (Some a) (Some b) (Some c) (take at text) (take n (drop at text)) h (k ∙ ap (λ z. b ++ take n z) (take_rest text at))
    ∙ ap (λ z. a ++ z) (sym (take-add at n text))

-- the writer stopped within a text
pub appends_front : (old new : Option (List ℕ)) (text : List ℕ) (at : ℕ) → Appends old new (take at text) → AppendsFront text old new
appends_front old new text at h = (take at text, h, (drop at text, sym (take-append-drop at text)))

pub keeps_front : (old between new : Option (List ℕ)) (text : List ℕ) (at : ℕ) → Appends old between (take at text) → Keeps between new
    → AppendsFront text old new
keeps_front None between new text at h k = appends_front None new text at tt
keeps_front (Some a) None _ text at h k = absurd h
keeps_front (Some a) (Some b) None text at h k = absurd k
keeps_front (Some a) (Some b) (Some c) text at h k = appends_front (Some a) (Some c) text at (k ∙ h)

-- a front after what was written before
pub front_after : (old between new : Option (List ℕ)) (xs ys : List ℕ) → Appends old between xs → AppendsFront ys between new → AppendsFront (xs ++ ys) old new
front_after old between new xs ys h (front, k, (rest, e)) =
    (xs ++ front, appends_both old between new xs front h k, (rest, ap (λ z. xs ++ z) e ∙ sym (append_assoc xs front rest)))

-- a front of the first of two texts
pub front_before : (old new : Option (List ℕ)) (xs ys : List ℕ) → AppendsFront xs old new → AppendsFront (xs ++ ys) old new
front_before old new xs ys (front, k, (rest, e)) =
    (front, k, (rest ++ ys, ap (λ z. z ++ ys) e ∙ append_assoc front rest ys))

-- what holds anyway holds at an error
pub on_err : {X E : Type 0} {P : Type 0} (r : Result X E) → P → OnErr r P
on_err (Ok x) p = tt
on_err (Err e) p = p

-- a front of a piece in the middle, after what was written before
pub front_within : (old between new : Option (List ℕ)) (whole xs ys zs : List ℕ) → whole ≡ xs ++ (ys ++ zs) → Appends old between xs
    → AppendsFront ys between new → AppendsFront whole old new
front_within old between new whole xs ys zs e h k =
    let f = front_before old new (xs ++ ys) zs (front_after old between new xs ys h k) in
    let same : whole ≡ (xs ++ ys) ++ zs = e ∙ sym (append_assoc xs ys zs) in
    rw same f

-- a front of a text whose front was to be written
pub err_front : {X E : Type 0} (r : Result X E) (old new : Option (List ℕ)) (whole xs rest : List ℕ) → whole ≡ xs ++ rest
    → OnErr r (AppendsFront xs old new) → OnErr r (AppendsFront whole old new)
err_front (Ok x) old new whole xs rest e h = tt
err_front (Err x) old new whole xs rest e h = rw e (front_before old new xs rest h)

-- the same behind what was written before
pub err_within : {X E : Type 0} (r : Result X E) (old between new : Option (List ℕ)) (whole xs ys zs : List ℕ) → whole ≡ xs ++ (ys ++ zs)
    → Appends old between xs → OnErr r (AppendsFront ys between new) → OnErr r (AppendsFront whole old new)
err_within (Ok x) old between new whole xs ys zs e a h = tt
err_within (Err x) old between new whole xs ys zs e a h = front_within old between new whole xs ys zs e a h

-- the last piece of a text was written after the others
pub ok_after : {X E : Type 0} (r : Result X E) (old between new : Option (List ℕ)) (whole xs ys : List ℕ) → whole ≡ xs ++ ys
    → Appends old between xs → OnOk r (Appends between new ys) → OnOk r (Appends old new whole)
ok_after (Ok x) old between new whole xs ys e a h = rw e (appends_both old between new xs ys a h)
ok_after (Err x) old between new whole xs ys e a h = tt

pub appends_same : (old : Option (List ℕ)) → Appends old old []
appends_same None = tt
appends_same (Some a) = sym (append-nil a)

pub front_of : (old new : Option (List ℕ)) (whole xs rest : List ℕ) → whole ≡ xs ++ rest → AppendsFront xs old new → AppendsFront whole old new
front_of old new whole xs rest e h = rw e (front_before old new xs rest h)
