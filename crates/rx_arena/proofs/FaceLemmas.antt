-- Words that say what cells say, and whether cells are protected.
use Rattle.std.proofs.Common.{◌≡◌, ◌≢◌, ℕ, zero, suc, ◌+◌, ◌*◌, ◌<◌, ◌≤◌, ◌/◌, ◌%◌, Some, None, refl, sym, ap, ◌∙◌, arith}
use Rattle.std.specs.Prelude.{Option, Bool, true, false, nat_eq, nat_lt, cond, IfSome}
use Rattle.std.specs.Option.{option_map}
use Rattle.std.proofs.lemmas.Bool.{ltb-true, lt-ltb, le-ltb}
use Rattle.std.proofs.lemmas.Nat.{div-mul-add, mod-mul-add}
use Rattle.rx_arena.specs.declared.CellBody.{CellBody}
use Rattle.rx_arena.specs.declared.Face.{Face}
use Rattle.rx_arena.specs.declared.Slot.{Slot}
use Rattle.rx_arena.specs.Inner.Node.{Node, with_mark, given_back, is_protected_node}
use Rattle.rx_arena.specs.Arena.{Taken}
use Rattle.rx_arena.specs.Faces.{face_of, ask, packed, fits, word_of, word_beside}

pub word-small : (b : CellBody) → fits b.kind b.a b.b b.anns ≡ true → word_of b ≡ packed b.kind b.a b.b
unfolding word_of
word-small b h = ap (λ z. cond z (packed b.kind b.a b.b) ask) h

pub word-large : (b : CellBody) → fits b.kind b.a b.b b.anns ≡ false → word_of b ≡ ask
unfolding word_of
word-large b h = ap (λ z. cond z (packed b.kind b.a b.b) ask) h

-- what fits, and what does not, of a kind that fits and without annotations
pub fits-small : (k a b : ℕ) → k < 4 → a < 4294967296 → b < 1073741824 → fits k a b None ≡ true
fits-small k a b lk la lb =
    ap (λ z. cond z (cond (nat_lt a 4294967296) (nat_lt b 1073741824) false) false) (lt-ltb k 4 lk)
    ∙ ap (λ z. cond z (nat_lt b 1073741824) false) (lt-ltb a 4294967296 la) ∙ lt-ltb b 1073741824 lb

pub fits-large : (k a b : ℕ) → k < 4 → 4294967296 ≤ a → fits k a b None ≡ false
fits-large k a b lk la =
    ap (λ z. cond z (cond (nat_lt a 4294967296) (nat_lt b 1073741824) false) false) (lt-ltb k 4 lk)
    ∙ ap (λ z. cond z (nat_lt b 1073741824) false) (le-ltb a 4294967296 la)

-- the face that a word says
abbrev pub unpacked : ℕ → Face
unpacked w = record { kind = w / 4294967296 / 1073741824; a = w % 4294967296; b = w / 4294967296 % 1073741824; anns = None }

all_three : (x y z : Bool) → cond x (cond y z false) false ≡ true → (x ≡ true) × (y ≡ true) × (z ≡ true)
all_three true true z e = (refl, refl, e)
all_three true false z e = absurd (cc)
all_three false y z e = absurd (cc)

unpacked-packed : (k a b : ℕ) → a < 4294967296 → b < 1073741824 → unpacked (packed k a b) ≡ record { kind = k; a = a; b = b; anns = None }
unpacked-packed k a b la lb =
    let high : packed k a b / 4294967296 ≡ k * 1073741824 + b = div-mul-add (k * 1073741824 + b) 4294967296 a la in
    let low : packed k a b % 4294967296 ≡ a = mod-mul-add (k * 1073741824 + b) 4294967296 a la in
    let top : packed k a b / 4294967296 / 1073741824 ≡ k = ap (λ z. z / 1073741824) high ∙ div-mul-add k 1073741824 b lb in
    let middle : packed k a b / 4294967296 % 1073741824 ≡ b = ap (λ z. z % 1073741824) high ∙ mod-mul-add k 1073741824 b lb in
    λ i. record { kind = top i; a = low i; b = middle i; anns = None }

unpacked-fitting : (k a b : ℕ) (o : Option Slot) → fits k a b o ≡ true → unpacked (packed k a b) ≡ record { kind = k; a = a; b = b; anns = o }
unpacked-fitting k a b (Some s) h = absurd (cc)
unpacked-fitting k a b None h =
    let t = all_three (nat_lt k 4) (nat_lt a 4294967296) (nat_lt b 1073741824) h in
    unpacked-packed k a b (ltb-true a 4294967296 t.1) (ltb-true b 1073741824 t.2)

-- a word that does not say to ask the cell says its body's face
pub unpacked-word : (w : ℕ) (b : CellBody) → w ≢ ask → w ≡ word_of b → unpacked w ≡ face_of b
unpacked-word w b ne e = by_fit (fits b.kind b.a b.b b.anns) refl where
  by_fit : (y : Bool) → fits b.kind b.a b.b b.anns ≡ y → unpacked w ≡ face_of b
  by_fit true h = ap unpacked (e ∙ word-small b h) ∙ unpacked-fitting b.kind b.a b.b b.anns h
  by_fit false h = absurd (ne (e ∙ word-large b h))

-- a change that keeps the body and the mark keeps the word
pub same_word : (f : Node → Node) (o : Option Node) → ((n : Node) → ((f n).body ≡ n.body) × ((f n).mark ≡ n.mark))
    → word_beside (option_map f o) ≡ word_beside o
same_word f None h = refl
same_word f (Some n) h = λ i. cond (nat_eq ((h n).1 i) 2) ask (word_of ((h n).0 i))

small_apart : (k : ℕ) → k ≤ 1 → nat_eq k 2 ≡ false
small_apart zero le = refl
small_apart (suc zero) le = refl
small_apart (suc (suc k)) le = absurd (omega (arith, le))

-- the word beside a cell that was not freed
pub word-taken : (n : Node) → n.mark ≤ 1 → word_beside (Some n) ≡ word_of n.body
word-taken n le = ap (λ z. cond z ask (word_of n.body)) (small_apart n.mark le)

-- a mark of a cell that was not freed keeps the word
pub marked_word : (k : ℕ) (o : Option Node) → k ≤ 1 → IfSome o (λ n. n.mark ≤ 1) → word_beside (option_map (with_mark k) o) ≡ word_beside o
marked_word k None le h = refl
marked_word k (Some n) le h = word-taken (with_mark k n) le ∙ sym (word-taken n h)

pub given_back_word : (t : Option ℕ) (o : Option Node) → ask ≡ word_beside (option_map (given_back t) o)
given_back_word t None = refl
given_back_word t (Some n) = refl

-- a change that keeps the root count keeps whether the node is protected
pub same_protected : (f : Node → Node) (o : Option Node) → ((n : Node) → (f n).roots ≡ n.roots)
    → is_protected_node (option_map f o) ≡ is_protected_node o
same_protected f None h = refl
same_protected f (Some n) h = ap (nat_lt 0) (h n)

-- what a word says of its body is so of the cell that it stands beside
pub first-by_word : (o : Option Taken) (w a : ℕ) → IfSome o (λ t. w ≡ word_of t.body) → ((b : CellBody) → w ≡ word_of b → a ≡ b.a)
    → IfSome o (λ t. a ≡ t.body.a)
first-by_word None w a e says = tt
first-by_word (Some t) w a e says = says t.body e

pub second-by_word : (o : Option Taken) (w b : ℕ) → IfSome o (λ t. w ≡ word_of t.body) → ((x : CellBody) → w ≡ word_of x → b ≡ x.b)
    → IfSome o (λ t. b ≡ t.body.b)
second-by_word None w b e says = tt
second-by_word (Some t) w b e says = says t.body e

pub face-by_word : (o : Option Taken) (w : ℕ) (f : Face) → IfSome o (λ t. w ≡ word_of t.body) → ((b : CellBody) → w ≡ word_of b → f ≡ face_of b)
    → IfSome o (λ t. f ≡ face_of t.body)
face-by_word None w f e says = tt
face-by_word (Some t) w f e says = says t.body e

-- what is read of a body
pub first-read : (o : Option Taken) (b : CellBody) → IfSome o (λ t. b ≡ t.body) → IfSome o (λ t. b.a ≡ t.body.a)
first-read None b h = tt
first-read (Some t) b h = ap (λ (x : CellBody). x.a) h

pub second-read : (o : Option Taken) (b : CellBody) → IfSome o (λ t. b ≡ t.body) → IfSome o (λ t. b.b ≡ t.body.b)
second-read None b h = tt
second-read (Some t) b h = ap (λ (x : CellBody). x.b) h

pub face-read : (o : Option Taken) (b : CellBody) → IfSome o (λ t. b ≡ t.body) → IfSome o (λ t. face_of b ≡ face_of t.body)
face-read None b h = tt
face-read (Some t) b h = ap face_of h

-- the parts of what a word says
pub kind-said : (w : ℕ) (b : CellBody) → w ≢ ask → w ≡ word_of b → w / 4294967296 / 1073741824 ≡ b.kind
kind-said w b ne e = ap (λ (f : Face). f.kind) (unpacked-word w b ne e)

pub first-said : (w : ℕ) (b : CellBody) → w ≢ ask → w ≡ word_of b → w % 4294967296 ≡ b.a
first-said w b ne e = ap (λ (f : Face). f.a) (unpacked-word w b ne e)

pub second-said : (w : ℕ) (b : CellBody) → w ≢ ask → w ≡ word_of b → w / 4294967296 % 1073741824 ≡ b.b
second-said w b ne e = ap (λ (f : Face). f.b) (unpacked-word w b ne e)

pub anns-said : (w : ℕ) (b : CellBody) → w ≢ ask → w ≡ word_of b → None ≡ b.anns
anns-said w b ne e = ap (λ (f : Face). f.anns) (unpacked-word w b ne e)

pub face-parts : (w k x y : ℕ) (b : CellBody) → w ≢ ask → w ≡ word_of b → k ≡ b.kind → x ≡ b.a → y ≡ b.b
    → record { kind = k; a = x; b = y; anns = None } ≡ face_of b
face-parts w k x y b ne e ek ea eb = λ i. record { kind = ek i; a = ea i; b = eb i; anns = anns-said w b ne e i }

-- a word that says what a cell says is that of a cell which was not freed
pub word-node : (o : Option Node) (w : ℕ) → w ≢ ask → w ≡ word_beside o → (n : Node) × (o ≡ Some n) × (n.mark ≢ 2) × (w ≡ word_of n.body)
word-node None w ne e = absurd (ne e)
word-node (Some n) w ne e = by_mark (nat_eq n.mark 2) refl where
  by_mark : (y : Bool) → nat_eq n.mark 2 ≡ y → (m : Node) × (Some n ≡ Some m) × (m.mark ≢ 2) × (w ≡ word_of m.body)
  by_mark true h = absurd (ne (e ∙ ap (λ z. cond z ask (word_of n.body)) h))
  by_mark false h = (n, refl, (λ q. absurd (let p = sym (ap (λ z. nat_eq z 2) q) ∙ h in cc)), e ∙ ap (λ z. cond z ask (word_of n.body)) h)
