-- What is kept of a request, and what is left of a stream.
use Rattle.std.proofs.Common.{◌≡◌, ℕ, zero, suc, ◌+◌, ◌-◌, ◌<◌, Bool, true, false, List, [], ◌∷◌, ◌++◌, Option, Some, None}
use Rattle.std.proofs.Common.{refl, sym, ap, subst, ◌∙◌, append_assoc, append-nil, length, take, drop, min, lit<, arith}
use Rattle.std.specs.Prelude.{◌==◌, MatchBool, MatchOption, position, slice_range}
use Rattle.std.proofs.lemmas.List.{drop-drop, drop_all, length-append, length-take}
use Rattle.std.specs.Io.KnownBytes.{IsAtEnd, Keeps}
use Rattle.rec_serve.specs.Conversation.{requests}
use Rattle.rec_serve.specs.declared.request.Request.{Request}
use Rattle.rec_serve.specs.Inner.Reading.{Begins, IsOver, IsRead, Splits, Takes, all_in_front, left_of, unread}
use Rattle.rec_serve.specs.declared.read_ahead.ReadAhead.{ReadAhead}
use Rattle.rec_serve.proofs.RequestLemmas.{ends_at, front-alone, front-append, front-ended, none_inside}

-- ---- fronts

pub take_both : (n : ℕ) (xs ys : List ℕ) → take n (xs ++ ys) ≡ take n xs ++ take (n - length xs) ys
take_both zero xs ys = let e : 0 - length xs ≡ 0 = omega arith in rw e refl
take_both (suc n) [] ys = let e : suc n - 0 ≡ suc n = omega arith in rw e refl
take_both (suc n) (x ∷ xs) ys =
    let e : suc n - suc (length xs) ≡ n - length xs = omega arith in
    rw e (ap (λ z. x ∷ z) (take_both n xs ys))

-- no more is taken than there is
take_min : (n : ℕ) (ys : List ℕ) → take (min n (length ys)) ys ≡ take n ys
take_min zero [] = refl
take_min zero (y ∷ ys) = let e : min 0 (suc (length ys)) ≡ 0 = omega arith in rw e refl
take_min (suc n) [] = let e : min (suc n) 0 ≡ 0 = omega arith in rw e refl
take_min (suc n) (y ∷ ys) = let e : min (suc n) (suc (length ys)) ≡ suc (min n (length ys)) = omega arith in rw e (ap (λ z. y ∷ z) (take_min n ys))

-- a piece more of a line of which the front is kept
pub kept_more : (most k : ℕ) (text line piece : List ℕ) → text ≡ take most line → k ≡ min (most - length text) (length piece)
    → text ++ take k piece ≡ take most (line ++ piece)
kept_more most k text line piece e is =
    let size : length text ≡ min most (length line) = ap length e ∙ length-take most line in
    let room : most - length text ≡ most - length line = omega (arith, size) in
    ap (λ z. z ++ take k piece) e
    ∙ ap (λ z. take most line ++ z) (ap (λ j. take j piece) (is ∙ ap (λ j. min j (length piece)) room) ∙ take_min (most - length line) piece)
    ∙ sym (take_both most line piece)

-- of nothing is kept nothing, and of something something
kept_nothing : (most : ℕ) (text line : List ℕ) → 0 < most → text ≡ take most line → length text ≡ 0 → line ≡ []
kept_nothing zero text line some e h = absurd (omega (arith, some))
kept_nothing (suc n) text [] some e h = refl
kept_nothing (suc n) text (b ∷ bs) some e h = let k : length text ≡ suc (length (take n bs)) = ap length e in absurd (omega (arith, k, h))

pub empty_request : (r : Request) (line : List ℕ) → r.is_lost ≡ false → length r.text.items ≡ 0 → IsRead r line → line ≡ []
empty_request r line kept none is =
    let e : r.text.items ≡ take 16777217 line = subst (λ b. MatchBool b (0 < length line) (r.text.items ≡ take 16777217 line)) kept is in
    kept_nothing 16777217 r.text.items line (lit< tt) e none

pub lost_request : (r : Request) (line : List ℕ) → r.is_lost ≡ true → IsRead r line → 0 < length line
lost_request r line lost is = subst (λ b. MatchBool b (0 < length line) (r.text.items ≡ take 16777217 line)) lost is

pub lost_more : (r : Request) (line piece : List ℕ) → r.is_lost ≡ true → IsRead r line → IsRead r (line ++ piece)
lost_more r line piece lost is =
    let some = lost_request r line lost is in
    let size = length-append line piece in
    subst (λ b. MatchBool b (0 < length (line ++ piece)) (r.text.items ≡ take 16777217 (line ++ piece))) (sym lost) (omega (arith, some, size))

nothing_of : (xs : List ℕ) → length xs ≡ 0 → xs ≡ []
nothing_of [] e = refl
nothing_of (x ∷ xs) e = absurd (omega (arith, e))

pub none_more : (r : Request) (line piece : List ℕ) → length piece ≡ 0 → IsRead r line → IsRead r (line ++ piece)
none_more r line piece none is = subst (IsRead r) (sym (ap (λ z. line ++ z) (nothing_of piece none) ∙ append-nil line)) is

-- a piece more of a request that is not lost, of which this is kept
pub read_more : (lost : Bool) (k : ℕ) (text more line piece : List ℕ) → lost ≡ false → MatchBool lost (0 < length line) (text ≡ take 16777217 line)
    → k ≡ min (16777217 - length text) (length piece) → more ≡ text ++ take k piece
    → MatchBool lost (0 < length (line ++ piece)) (more ≡ take 16777217 (line ++ piece))
read_more true k text more line piece e is few kept = absurd (cc e)
read_more false k text more line piece e is few kept = kept ∙ kept_more 16777217 k text line piece is few

-- ---- bytes that were read ahead

drop_take : (c m : ℕ) (zs : List ℕ) → drop c (take m zs) ≡ take (m - c) (drop c zs)
drop_take zero m zs = let e : m - 0 ≡ m = omega arith in rw e refl
drop_take (suc c) zero zs = let e : 0 - suc c ≡ 0 = omega arith in rw e refl
drop_take (suc c) (suc m) [] = by (suc m - suc c)
  where
    by : (k : ℕ) → ◌≡◌ {A = List ℕ} [] (take k [])
    by zero = refl
    by (suc k) = refl
drop_take (suc c) (suc m) (z ∷ zs) = let e : suc m - suc c ≡ m - c = omega arith in rw e (drop_take c m zs)

-- a part without its first bytes
pub part_skipped : (xs : List ℕ) (a b c : ℕ) → slice_range xs (a + c) b ≡ drop c (slice_range xs a b)
part_skipped xs a b c =
    let e : b - (a + c) ≡ b - a - c = omega arith in
    ap (λ k. take k (drop (a + c) xs)) e ∙ ap (take (b - a - c)) (sym (drop-drop c a xs)) ∙ sym (drop_take c (b - a) (drop a xs))

-- ---- what is left of a stream

pub begins_keeps : (old left new : Option (List ℕ)) (line : List ℕ) → Begins old left line → Keeps left new → Begins old new line
begins_keeps None left new line h k = tt
begins_keeps (Some bytes) None new line h k = absurd h
begins_keeps (Some bytes) (Some rest) None line h k = absurd k
begins_keeps (Some bytes) (Some rest) (Some same) line h k = h ∙ ap (λ z. all_in_front line (requests z)) (sym k)

pub left_again : (a : ReadAhead) (known : Option (List ℕ)) → unread a ≡ [] → Splits known (left_of a known) []
left_again a None e = tt
left_again a (Some rest) e = ap requests (sym (ap (λ z. z ++ rest) e))

-- after a piece without a line end
pub begins_taken : (old known : Option (List ℕ)) (a b : ReadAhead) (line piece : List ℕ) → Begins old (left_of a known) line → Takes a b false piece
    → Begins old (left_of b known) (line ++ piece)
begins_taken None known a b line piece h t = tt
begins_taken (Some bytes) None a b line piece h t = absurd h
begins_taken (Some bytes) (Some rest) a b line piece h t =
    h ∙ ap (all_in_front line) (t.front rest) ∙ sym (front-append line piece (requests (unread b ++ rest)))

-- after one that a line end follows
pub splits_taken : (old known : Option (List ℕ)) (a b : ReadAhead) (line piece : List ℕ) → Begins old (left_of a known) line → Takes a b true piece
    → Splits old (left_of b known) ((line ++ piece) ∷ [])
splits_taken None known a b line piece h t = tt
splits_taken (Some bytes) None a b line piece h t = absurd h
splits_taken (Some bytes) (Some rest) a b line piece h t =
    let others = requests (unread b ++ rest) in
    h ∙ ap (all_in_front line) (t.front rest) ∙ sym (front-append line piece ([] ∷ others)) ∙ front-ended (line ++ piece) others

-- at the end of the stream, behind a line without its end
pub splits_end : (old known : Option (List ℕ)) (a : ReadAhead) (line : List ℕ) → Begins old (left_of a known) line → unread a ≡ [] → IsAtEnd known
    → 0 < length line → Splits old (left_of a known) (line ∷ [])
splits_end None known a line h e end some = tt
splits_end (Some bytes) None a line h e end some = absurd h
splits_end (Some bytes) (Some rest) a line h e end some =
    let none : requests (unread a ++ rest) ≡ [] = ap requests (ap (λ z. z ++ rest) e ∙ end) in
    h ∙ ap (all_in_front line) none ∙ front-alone line some ∙ ap (λ z. line ∷ z) (sym none)

-- and behind nothing
pub over_end : (old known : Option (List ℕ)) (a : ReadAhead) (line : List ℕ) → Begins old (left_of a known) line → unread a ≡ [] → IsAtEnd known
    → line ≡ [] → IsOver old
over_end None known a line h e end nothing = tt
over_end (Some bytes) None a line h e end nothing = absurd h
over_end (Some bytes) (Some rest) a line h e end nothing =
    h ∙ ap (λ z. all_in_front z (requests (unread a ++ rest))) nothing ∙ ap requests (ap (λ z. z ++ rest) e ∙ end)

-- at the end of the stream, by whether a byte was read
pub at_end : (o : Option Request) (r : Request) (old known : Option (List ℕ)) (a : ReadAhead) (line : List ℕ) → Begins old (left_of a known) line
    → unread a ≡ [] → IsAtEnd known → IsRead r line
    → MatchOption o ((l : List ℕ) → IsRead r l → l ≡ []) (λ q. (q ≡ r) × ((l : List ℕ) → IsRead r l → 0 < length l))
    → MatchOption o (IsOver old × IsAtEnd known) (λ q. (l : List ℕ) × IsRead q l × Splits old (left_of a known) (l ∷ []))
at_end None r old known a line h e end is last = (over_end old known a line h e end (last line is), end)
at_end (Some q) r old known a line h e end is last =
    (line, subst (λ (x : Request). IsRead x line) (sym last.0) is, splits_end old known a line h e end (last.1 line is))

pub keeps_both : (a b c : Option (List ℕ)) → Keeps a b → Keeps b c → Keeps a c
keeps_both None b c h k = tt
keeps_both (Some x) None c h k = absurd h
keeps_both (Some x) (Some y) None h k = absurd k
keeps_both (Some x) (Some y) (Some z) h k = k ∙ h

-- ---- pieces

pub takes_ended : (a b : ReadAhead) (i : ℕ) → position (λ c. c == 10) (unread a) ≡ Some i → unread b ≡ drop (i + 1) (unread a)
    → Takes a b true (take i (unread a))
takes_ended a b i at d =
    let end = ends_at (unread a) i at in
    record {
      front = λ rest. end.split rest ∙ ap (λ z. all_in_front (take i (unread a)) ([] ∷ requests (z ++ rest))) (sym d);
      empty = λ e. absurd (cc e);
      some = λ e few. absurd (cc e);
    }

pub takes_all : (a b : ReadAhead) → position (λ c. c == 10) (unread a) ≡ None → unread b ≡ [] → Takes a b false (unread a)
takes_all a b none e = record {
  front = λ rest. none_inside (unread a) rest none ∙ ap (λ z. all_in_front (unread a) (requests z)) (sym (ap (λ z. z ++ rest) e));
  empty = λ _. e;
  some = λ _ few. few;
}

-- nothing is left behind all
pub skipped_all : (a b : ReadAhead) → unread b ≡ drop (a.end - a.at) (unread a) → unread b ≡ []
skipped_all a b e =
    let few = length-take (a.end - a.at) (drop a.at a.buffer.items) in
    e ∙ drop_all (a.end - a.at) (unread a) (omega (arith, few))

-- requests one after the other
pub splits_both : (old mid new : Option (List ℕ)) (xs ys : List (List ℕ)) → Splits old mid xs → Splits mid new ys → Splits old new (xs ++ ys)
splits_both None mid new xs ys h k = tt
splits_both (Some a) None new xs ys h k = absurd h
splits_both (Some a) (Some b) None xs ys h k = absurd k
splits_both (Some a) (Some b) (Some c) xs ys h k = h ∙ ap (λ z. xs ++ z) k ∙ sym (append_assoc xs ys (requests c))
