-- The items of a term leave its part on a stack.
use Rattle.std.proofs.Common.{refl, sym, ap, subst, arith, ◌∙◌, inl, inr}
use Rattle.std.proofs.lemmas.List.{append-nil, append_assoc, length-append, length-take-le, get_or_append_left, map-append}
use Rattle.std.proofs.Math.Seq.{take-append_seam, drop-append_seam}
use Rattle.std.specs.Prelude.{ℕ, zero, suc, ◌+◌, ◌-◌, ◌<◌, ◌≤◌, ◌≡◌, ◌≢◌, ◌⊎◌, List, [], ◌∷◌, ◌++◌, length, map, get_or, take, drop, slice_range}
use Rattle.rec_syntax.specs.Syntax.{Term, Terms, Apply, none, more, Spec}
use Rattle.rec_sorts.specs.Lookup.{count}
use Rattle.rec_sorts.specs.Laws.{Every}
use Rattle.rec_sorts.specs.Numbering.{Named, named, named_all, named_by}
use Rattle.rec_sorts.specs.declared.letters.Letter.{Letter}
use Rattle.rec_match.specs.Parts.{part_at, no_part, arguments_at, IsHead, IsPart, AreParts, PushesLetter, IsWhole}
use Rattle.rec_match.specs.Pushed.{CanPush, Pushed, counts_of, IsFilled, MoreParts, PushesTerm, PushesTerms}
use Rattle.rec_match.specs.declared.parts.Part.{Part}
use Rattle.rec_match.specs.declared.parts.Parts.{Parts}
use Rattle.rec_match.proofs.ExtensionLemmas.{slice_within}
use Rattle.rec_match.proofs.FactLemmas.{every_append, every_joined, every_map}
use Rattle.rec_match.proofs.ItemLemmas.{get-last}
use Rattle.rec_match.proofs.LeftLemmas.{every_take, every_drop}
use Rattle.rec_match.proofs.TaskLemmas.{slice_seam}

-- a list whose images are those of two lists in a row
record Split (y : Spec) (ls : List Letter) (xs zs : List Named) : Type 0 where
  pub front : List Letter
  pub back : List Letter
  pub is : ls ≡ front ++ back
  pub front_is : map (named_by y) front ≡ xs
  pub back_is : map (named_by y) back ≡ zs

split_named : (y : Spec) (ls : List Letter) (xs zs : List Named) → map (named_by y) ls ≡ xs ++ zs → Split y ls xs zs
split_named y ls [] zs e = record { front = []; back = ls; is = refl; front_is = refl; back_is = e }
split_named y [] (x ∷ xs) zs e = absurd (cc e)
split_named y (l ∷ ls) (x ∷ xs) zs e =
    let rest : map (named_by y) ls ≡ xs ++ zs = cc e in
    let first : named_by y l ≡ x = cc e in
    let s = split_named y ls xs zs rest in
    record { front = l ∷ s.front; back = s.back; is = ap (λ ms. l ∷ ms) s.is; front_is = cc (first, s.front_is); back_is = s.back_is }

pub more_long : (ps qs : Parts) → MoreParts ps qs → length ps.parts.items ≤ length qs.parts.items
more_long ps qs m = let l = ap length m.parts ∙ length-append ps.parts.items m.new_parts in omega (arith, l)

more_none : (ps : Parts) → MoreParts ps ps
more_none ps = record { new_parts = []; parts = sym (append-nil ps.parts.items); new_arguments = []; arguments = sym (append-nil ps.arguments.items) }

more_more : (ps qs rs : Parts) → MoreParts ps qs → MoreParts qs rs → MoreParts ps rs
more_more ps qs rs a b = record {
  new_parts = a.new_parts ++ b.new_parts;
  parts = b.parts ∙ ap (λ xs. xs ++ b.new_parts) a.parts ∙ append_assoc ps.parts.items a.new_parts b.new_parts;
  new_arguments = a.new_arguments ++ b.new_arguments;
  arguments = b.arguments ∙ ap (λ xs. xs ++ b.new_arguments) a.arguments ∙ append_assoc ps.arguments.items a.new_arguments b.new_arguments;
}

module _ (y : Spec) where
  -- a part stays when there are more
  module _ (ps qs : Parts) (m : MoreParts ps qs) (whole : IsWhole ps) where
    same_part : (n : ℕ) → n < length ps.parts.items → part_at qs n ≡ part_at ps n
    same_part n lt = ap (λ xs. get_or xs n no_part) m.parts ∙ get_or_append_left ps.parts.items m.new_parts no_part n lt

    same_arguments : (n : ℕ) → n < length ps.parts.items → arguments_at qs n ≡ arguments_at ps n
    same_arguments n lt =
        ap (λ (p : Part). slice_range qs.arguments.items p.from p.to) (same_part n lt)
        ∙ ap (λ xs. slice_range xs (part_at ps n).from (part_at ps n).to) m.arguments
        ∙ slice_within ps.arguments.items m.new_arguments (part_at ps n).from (part_at ps n).to (whole.within n lt)

    arguments_there : (n : ℕ) → Every (λ (a : ℕ). a < length ps.parts.items) (arguments_at ps n)
    arguments_there n =
        let p = part_at ps n in
        every_take (λ (a : ℕ). a < length ps.parts.items) (p.to - p.from) (drop p.from ps.arguments.items)
        (every_drop (λ (a : ℕ). a < length ps.parts.items) p.from ps.arguments.items whole.arguments)

    mutual
      pub part_later : (t : Term) (n : ℕ) → n < length ps.parts.items → IsPart y ps n t → IsPart y qs n t
      part_later (Apply w ts) n lt h = (
        subst (λ (p : Part). IsHead y p.meaning w.bytes (count ts)) (sym (same_part n lt)) h.0,
        subst (λ ks. AreParts y qs ks ts) (sym (same_arguments n lt)) (parts_later ts (arguments_at ps n) (arguments_there n) h.1),
      )

      parts_later : (ts : Terms) (ks : List ℕ) → Every (λ (a : ℕ). a < length ps.parts.items) ks → AreParts y ps ks ts → AreParts y qs ks ts
      parts_later none [] lt h = tt
      parts_later none (k ∷ ks) lt h = absurd h
      parts_later (more t ts) [] lt h = absurd h
      parts_later (more t ts) (k ∷ ks) lt h = (part_later t k lt.0 h.0, parts_later ts ks lt.1 h.1)

  -- one item more, whose arguments are on top
  pushed_letter : (ps qs : Parts) (l : Letter) (st ks ms : List ℕ) (t : Term) → IsFilled y l
      → named_by y l ≡ record { name = (Rattle.rec_syntax.specs.Syntax.head t).bytes; arguments = count (Rattle.rec_syntax.specs.Syntax.arguments t) }
      → IsWhole ps → Every (λ (a : ℕ). a < length ps.parts.items) ks → length ks ≡ count (Rattle.rec_syntax.specs.Syntax.arguments t)
      → AreParts y ps ks (Rattle.rec_syntax.specs.Syntax.arguments t)
      → PushesLetter ps qs l (st ++ ks) ms → PushesTerm y ps t qs (length ps.parts.items) × (ms ≡ st ++ length ps.parts.items ∷ [])
  pushed_letter ps qs l st ks ms (Apply w ts) filled own whole there long are p = (
    record { is = is; there = (let l = long_parts in omega (arith, l)); whole = whole_now; more = grown },
    p.top ∙ ap (λ xs. xs ++ length ps.parts.items ∷ []) (ap (λ k. take k (st ++ ks)) at ∙ take-append_seam st ks),
  )
    where
      counted : l.count ≡ length ks
      counted = ap (λ (m : Named). m.arguments) own ∙ sym long

      at : length (st ++ ks) - l.count ≡ length st
      at = let e = length-append st ks in let c = counted in omega (arith, e, c)

      part : Part
      part = record { meaning = l.meaning; from = length ps.arguments.items; to = length ps.arguments.items + l.count }

      arguments_are : qs.arguments.items ≡ ps.arguments.items ++ ks
      arguments_are = p.arguments ∙ ap (λ xs. ps.arguments.items ++ xs) (ap (λ k. drop k (st ++ ks)) at ∙ drop-append_seam st ks)

      grown : MoreParts ps qs
      grown = record { new_parts = part ∷ []; parts = p.parts; new_arguments = ks; arguments = arguments_are }

      long_parts : length qs.parts.items ≡ length ps.parts.items + 1
      long_parts = ap length p.parts ∙ length-append ps.parts.items (part ∷ [])

      long_arguments : length qs.arguments.items ≡ length ps.arguments.items + length ks
      long_arguments = ap length arguments_are ∙ length-append ps.arguments.items ks

      last : part_at qs (length ps.parts.items) ≡ part
      last = ap (λ xs. get_or xs (length ps.parts.items) no_part) p.parts ∙ get-last ps.parts.items part (length ps.parts.items) no_part refl

      args : arguments_at qs (length ps.parts.items) ≡ ks
      args =
          ap (λ (q : Part). slice_range qs.arguments.items q.from q.to) last
          ∙ ap (λ xs. slice_range xs (length ps.arguments.items) (length ps.arguments.items + l.count)) arguments_are
          ∙ ap (λ k. slice_range (ps.arguments.items ++ ks) (length ps.arguments.items) (length ps.arguments.items + k)) counted
          ∙ slice_seam ps.arguments.items ks

      headed : IsHead y l.meaning w.bytes (count ts)
      headed = subst (λ (m : Named). IsHead y l.meaning m.name m.arguments) own filled

      is : IsPart y qs (length ps.parts.items) (Apply w ts)
      is = (
        subst (λ (q : Part). IsHead y q.meaning w.bytes (count ts)) (sym last) headed,
        subst (λ xs. AreParts y qs xs ts) (sym args) (parts_later ps qs grown whole ts ks there are),
      )

      by_part : (P : Part → Type 0) → ((k : ℕ) → k < length ps.parts.items → P (part_at ps k)) → P part → (k : ℕ) → k < length qs.parts.items → P (part_at qs k)
      by_part P each new k lt = at_place (Rattle.std.proofs.lemmas.Bool.cases_eq k (length ps.parts.items))
        where
          at_place : (k ≡ length ps.parts.items) ⊎ (k ≢ length ps.parts.items) → P (part_at qs k)
          at_place (inl e) = subst (λ j. P (part_at qs j)) (sym e) (subst P (sym last) new)
          at_place (inr ne) = let l = long_parts in let below : k < length ps.parts.items = omega (arith, lt, l, ne) in
              subst P (sym (same_part ps qs grown whole k below)) (each k below)

      whole_now : IsWhole qs
      whole_now = record {
        ordered = by_part (λ (q : Part). q.from ≤ q.to) whole.ordered (let o : length ps.arguments.items ≤ length ps.arguments.items + l.count =
            omega arith in o);
        within = by_part (λ (q : Part). q.to ≤ length qs.arguments.items)
            (λ k lt. (let w = whole.within k lt in let a = long_arguments in omega (arith, w, a)))
            (let a = long_arguments in let c = counted in let o : length ps.arguments.items + l.count ≤ length qs.arguments.items = omega (arith, a, c) in o);
        arguments = subst (λ xs. Every (λ (a : ℕ). a < length qs.parts.items) xs) (sym arguments_are)
            (every_joined (λ (a : ℕ). a < length qs.parts.items) ps.arguments.items ks (wider ps.arguments.items whole.arguments) (wider ks there));
      }
        where
          wider : (xs : List ℕ) → Every (λ (a : ℕ). a < length ps.parts.items) xs → Every (λ (a : ℕ). a < length qs.parts.items) xs
          wider xs h = every_map (λ (a : ℕ). a < length ps.parts.items) (λ (a : ℕ). a < length qs.parts.items) (λ a lt.
              (let l = long_parts in omega (arith, lt, l))) xs h

  pub record TermPushed (ps : Parts) (st : List ℕ) (t : Term) (rest : List Letter) (qs : Parts) (ms : List ℕ) : Type 0 where
    pub mid : Parts
    pub n : ℕ
    pub pushes : PushesTerm y ps t mid n
    pub later : Pushed mid (st ++ n ∷ []) rest qs ms

  pub record TermsPushed (ps : Parts) (st : List ℕ) (ts : Terms) (rest : List Letter) (qs : Parts) (ms : List ℕ) : Type 0 where
    pub mid : Parts
    pub ks : List ℕ
    pub pushes : PushesTerms y ps ts mid ks
    pub later : Pushed mid (st ++ ks) rest qs ms

  last_pushed : (w : Rattle.rec_syntax.specs.Tokens.Word) (ts : Terms) (ls rest : List Letter) (ps qs : Parts) (st ms : List ℕ)
      → map (named_by y) ls ≡ (record { name = w.bytes; arguments = count ts }) ∷ [] → Every (IsFilled y) ls
      → TermsPushed ps st ts (ls ++ rest) qs ms → TermPushed ps st (Apply w ts) rest qs ms
  last_pushed w ts [] rest ps qs st ms e filled a = absurd (cc e)
  last_pushed w ts (l ∷ k ∷ ls) rest ps qs st ms e filled a = absurd (cc e)
  last_pushed w ts (l ∷ []) rest ps qs st ms e filled a =
      let own : named_by y l ≡ record { name = w.bytes; arguments = count ts } = cc e in
      let mid = a.later.0 in
      let r = pushed_letter a.mid mid l st a.ks a.later.1 (Apply w ts) filled.0 own a.pushes.whole a.pushes.there a.pushes.long a.pushes.are a.later.2 in
      record {
        mid = mid;
        n = length a.mid.parts.items;
        pushes = record { is = r.0.is; there = r.0.there; whole = r.0.whole; more = more_more ps a.mid mid a.pushes.more r.0.more };
        later = subst (λ xs. Pushed mid xs rest qs ms) r.1 a.later.3;
      }

  mutual
    -- the items of a term, before others, leave its part on the stack
    pub term_pushed : (t : Term) (ls rest : List Letter) (ps qs : Parts) (st ms : List ℕ) → map (named_by y) ls ≡ named t → Every (IsFilled y) ls
        → IsWhole ps → Pushed ps st (ls ++ rest) qs ms → TermPushed ps st t rest qs ms
    term_pushed (Apply w ts) ls rest ps qs st ms e filled whole p =
        let s = split_named y ls (named_all ts) ((record { name = w.bytes; arguments = count ts }) ∷ []) e in
        let f = every_append (IsFilled y) s.front s.back (subst (Every (IsFilled y)) s.is filled) in
        last_pushed w ts s.back rest ps qs st ms s.back_is f.1
        (terms_pushed ts s.front (s.back ++ rest) ps qs st ms s.front_is f.0 whole
        (subst (λ xs. Pushed ps st xs qs ms) (ap (λ xs. xs ++ rest) s.is ∙ append_assoc s.front s.back rest) p))

    terms_pushed : (ts : Terms) (ls rest : List Letter) (ps qs : Parts) (st ms : List ℕ) → map (named_by y) ls ≡ named_all ts → Every (IsFilled y) ls
        → IsWhole ps → Pushed ps st (ls ++ rest) qs ms → TermsPushed ps st ts rest qs ms
    terms_pushed none [] rest ps qs st ms e filled whole p =
        record {
          mid = ps;
          ks = [];
          pushes = record { are = tt; there = tt; long = refl; whole = whole; more = more_none ps };
          later =
              subst (λ xs. Pushed ps xs rest qs ms) (sym (append-nil st)) p;
        }
    terms_pushed none (l ∷ ls) rest ps qs st ms e filled whole p = absurd (cc e)
    terms_pushed (more t ts) ls rest ps qs st ms e filled whole p =
        let s = split_named y ls (named t) (named_all ts) e in
        let f = every_append (IsFilled y) s.front s.back (subst (Every (IsFilled y)) s.is filled) in
        let a = term_pushed t s.front (s.back ++ rest) ps qs st ms s.front_is f.0 whole
        (subst (λ xs. Pushed ps st xs qs ms) (ap (λ xs. xs ++ rest) s.is ∙ append_assoc s.front s.back rest) p) in
        let b = terms_pushed ts s.back rest a.mid qs (st ++ a.n ∷ []) ms s.back_is f.1 a.pushes.whole a.later in
        let le = more_long a.mid b.mid b.pushes.more in
        let lt = a.pushes.there in
        let long = b.pushes.long in
        record {
          mid = b.mid;
          ks = a.n ∷ b.ks;
          pushes = record {
            are = (part_later a.mid b.mid b.pushes.more a.pushes.whole t a.n a.pushes.there a.pushes.is, b.pushes.are);
            there = ((let l : a.n < length b.mid.parts.items = omega (arith, le, lt) in l), b.pushes.there);
            long = omega (arith, long);
            whole = b.pushes.whole;
            more = more_more ps a.mid b.mid a.pushes.more b.pushes.more;
          };
          later = subst (λ xs. Pushed b.mid xs rest qs ms) (append_assoc st (a.n ∷ []) b.ks) b.later;
        }

-- a stack has the arguments of each item of a term
abbrev counts : List Named → List ℕ
counts ms = map (λ (m : Named). m.arguments) ms

mutual
  can_push_term : (t : Term) (n : ℕ) (rest : List ℕ) → CanPush (suc n) rest → CanPush n (counts (named t) ++ rest)
  can_push_term (Apply w ts) n rest h =
      let m : Named = record { name = w.bytes; arguments = count ts } in
      subst (CanPush n) (sym (ap (λ xs. xs ++ rest) (map-append (λ (m : Named). m.arguments) (named_all ts) (m ∷ []))
      ∙ append_assoc (counts (named_all ts)) (count ts ∷ []) rest))
      (can_push_terms ts n (count ts ∷ rest) (
        (let le : count ts ≤ n + count ts = omega arith in le),
        subst (λ k. CanPush (suc k) rest) (let e : n ≡ (n + count ts) - count ts = omega arith in e) h,
      ))

  can_push_terms : (ts : Terms) (n : ℕ) (rest : List ℕ) → CanPush (n + count ts) rest → CanPush n (counts (named_all ts) ++ rest)
  can_push_terms none n rest h = subst (λ k. CanPush k rest) (let e : n + 0 ≡ n = omega arith in e) h
  can_push_terms (more t ts) n rest h =
      subst (CanPush n) (sym (ap (λ xs. xs ++ rest) (map-append (λ (m : Named). m.arguments) (named t) (named_all ts))
      ∙ append_assoc (counts (named t)) (counts (named_all ts)) rest))
      (can_push_term t n (counts (named_all ts) ++ rest) (can_push_terms ts (suc n) rest
      (subst (λ k. CanPush k rest) (let e : n + suc (count ts) ≡ suc n + count ts = omega arith in e) h)))

-- one item more of some
drop_next : (xs : List Letter) (i : ℕ) (d : Letter) → i < length xs → drop i xs ≡ get_or xs i d ∷ drop (i + 1) xs
drop_next [] i d lt = absurd (let bad : ⊥ = omega (arith, lt) in bad)
drop_next (x ∷ xs) zero d lt = refl
drop_next (x ∷ xs) (suc i) d lt = drop_next xs i d (omega (arith, lt))
    ∙ ap (λ k. get_or xs i d ∷ drop k (x ∷ xs)) (let e : suc (i + 1) ≡ suc i + 1 = omega arith in e)

pub can_next : (letters : List Letter) (i n : ℕ) (d : Letter) → i < length letters → CanPush n (counts_of (drop i letters)) → (get_or letters i d).count ≤ n
can_next letters i n d lt can = let c : CanPush n ((get_or letters i d).count ∷ counts_of (drop (i + 1) letters)) =
    subst (λ xs. CanPush n (counts_of xs)) (drop_next letters i d lt) can in c.0

pub pushed_next : (letters : List Letter) (i : ℕ) (d : Letter) (ps mid : Parts) (st ms : List ℕ) → i < length letters
    → PushesLetter ps mid (get_or letters i d) st ms → CanPush (length st) (counts_of (drop i letters))
    → CanPush (length ms) (counts_of (drop (i + 1) letters)) × ((qs : Parts) (out : List ℕ) → Pushed mid ms (drop (i + 1) letters) qs out
    → Pushed ps st (drop i letters) qs out)
pushed_next letters i d ps mid st ms lt p can =
    let l : Letter = get_or letters i d in
    let next : drop i letters ≡ l ∷ drop (i + 1) letters = drop_next letters i d lt in
    let c : CanPush (length st) (l.count ∷ counts_of (drop (i + 1) letters)) = subst (λ xs. CanPush (length st) (counts_of xs)) next can in
    let long : length ms ≡ suc (length st - l.count) = (let x = ap length p.top
    ∙ length-append (take (length st - l.count) st) (length ps.parts.items ∷ []) in let m =
    length-take-le (length st - l.count) st (omega arith) in omega (arith, x, m)) in
    (subst (λ n. CanPush n (counts_of (drop (i + 1) letters))) (sym long) c.1, λ qs out h. subst (λ xs. Pushed ps st xs qs out) (sym next) (mid, ms, p, h))

-- the items of a term can be put on any stack
pub can_push : (y : Spec) (t : Term) (ls : List Letter) (n : ℕ) → map (named_by y) ls ≡ named t → CanPush n (counts_of ls)
can_push y t ls n e = subst (CanPush n) (append-nil (counts (named t)) ∙ ap counts (sym e) ∙ same ls) (can_push_term t n [] tt)
  where
    same : (ls : List Letter) → counts (map (named_by y) ls) ≡ counts_of ls
    same [] = refl
    same (l ∷ ls) = ap (λ ks. l.count ∷ ks) (same ls)

-- a term's items leave its part on an empty stack
pub part_pushed : (y : Spec) (t : Term) (ls : List Letter) (ps qs : Parts) (ms : List ℕ) → map (named_by y) ls ≡ named t → Every (IsFilled y) ls
    → IsWhole ps → Pushed ps [] ls qs ms → (n : ℕ) × PushesTerm y ps t qs n × (ms ≡ n ∷ [])
part_pushed y t ls ps qs ms e filled whole p =
    let a = term_pushed y t ls [] ps qs [] ms e filled whole (subst (λ xs. Pushed ps [] xs qs ms) (sym (append-nil ls)) p) in
    (a.n, subst (λ rs. PushesTerm y ps t rs a.n) a.later.0 a.pushes, sym a.later.1)
