-- What is read of a term and of a rule is spelled so.
use Rattle.std.proofs.Common.{◌≡◌, List, [], ◌∷◌, ◌++◌, refl, sym, subst}
use Rattle.rec_syntax.specs.Tokens.{Word, Rules, Eval, Token, Plain, If, AndIf, Open, Close, Comma, Arrow}
use Rattle.rec_syntax.specs.Syntax.{Term, Terms, Apply, none, more, Condition, Spec}
use Rattle.rec_syntax.specs.Grammar.{Phrase, ◌then◌, nothing, token, word, each, term, further_arguments, comparison, condition, conditions}
use Rattle.rec_syntax.specs.Inner.Machine.{Frame, snoc, Role, Left, Right, CondLeft, CondRight, InEval, In}
use Rattle.rec_syntax.proofs.SoundSectionLemmas.{Sofar}

-- arguments, each with a comma after it
abbrev listed : Terms → Phrase
listed none = nothing
listed (more t ts) = term t then token Comma then listed ts

-- the open applications
abbrev pub opening : List Frame → Phrase
opening [] = nothing
opening (f ∷ fs) = opening fs then word f.word then token Open then listed f.arguments

-- the arguments after an opening parenthesis, and the closing one
abbrev to_close : Terms → Phrase
to_close none = token Close
to_close (more t ts) = term t then further_arguments ts

pub listed-snoc : (ts : Terms) (t : Term) (a m l : List Token) → listed ts a m → term t m (Comma ∷ l) → listed (snoc ts t) a l
listed-snoc none t a m l e k = (Comma ∷ l, subst (λ us. term t us (Comma ∷ l)) (sym e) k, (l, refl, refl))
listed-snoc (more x xs) t a m l (b, h, (c, e, r)) k = (b, h, (c, e, listed-snoc xs t c m l r k))

listed-further : (ts : Terms) (t : Term) (a m l : List Token) → listed ts a m → term t m (Close ∷ l) → further_arguments (snoc ts t) (Comma ∷ a) l
listed-further none t a m l e k = (a, refl, (Close ∷ l, subst (λ us. term t us (Close ∷ l)) (sym e) k, refl))
listed-further (more x xs) t a m l (b, h, (c, e, r)) k = (
  a,
  refl,
  (b, h, subst (λ us. further_arguments (snoc xs t) us l) (sym e) (listed-further xs t c m l r k)),
)

listed-close : (ts : Terms) (t : Term) (a m l : List Token) → listed ts a m → term t m (Close ∷ l) → to_close (snoc ts t) a l
listed-close none t a m l e k = (Close ∷ l, subst (λ us. term t us (Close ∷ l)) (sym e) k, refl)
listed-close (more x xs) t a m l (b, h, (c, e, r)) k = (b, h, subst (λ us. further_arguments (snoc xs t) us l) (sym e) (listed-further xs t c m l r k))

pub closed_term : (w : Word) (ts : Terms) (t : Term) (a b m l : List Token) → a ≡ Plain w ∷ Open ∷ b → listed ts b m → term t m (Close ∷ l)
    → term (Apply w (snoc ts t)) a l
closed_term w none t a b m l e k s = (Open ∷ b, e, (b, refl, listed-close none t b m l k s))
closed_term w (more x xs) t a b m l e k s = (Open ∷ b, e, (b, refl, listed-close (more x xs) t b m l k s))

-- conditions, and the word after them
abbrev keyed : Token → List Condition → Phrase
keyed key [] = token key
keyed key (c ∷ cs) = token key then condition c then keyed AndIf cs

-- a condition after the first one
abbrev pub further : Condition → Phrase
further c = token AndIf then condition c

further-last : (cs : List Condition) (c : Condition) (ts m l : List Token) → keyed AndIf cs ts m → condition c m l → each further (cs ++ c ∷ []) ts l
further-last [] c ts m l e k = (l, (m, e, k), refl)
further-last (x ∷ cs) c ts m l (a, e, (b, h, r)) k = (b, (a, e, h), further-last cs c b m l r k)

pub keyed-last : (cs : List Condition) (c : Condition) (ts m l : List Token) → keyed If cs ts m → condition c m l → conditions (cs ++ c ∷ []) ts l
keyed-last [] c ts m l e k = (m, e, (l, k, refl))
keyed-last (x ∷ cs) c ts m l (a, e, (b, h, r)) k = (a, e, (b, h, further-last cs c b m l r k))

pub keyed-more : (key : Token) (cs : List Condition) (c : Condition) (ts m l : List Token) → keyed key cs ts m → condition c m (AndIf ∷ l)
    → keyed key (cs ++ c ∷ []) ts l
keyed-more key [] c ts m l e k = (m, e, (AndIf ∷ l, k, refl))
keyed-more key (x ∷ cs) c ts m l (a, e, (b, h, r)) k = (a, e, (b, h, keyed-more AndIf cs c b m l r k))

-- the tokens before a condition's left term
abbrev before_condition : Term → Term → List Condition → Spec → Phrase
before_condition l r cs y = Sofar (In Rules) y then term l then token Arrow then term r then keyed If cs

-- the tokens before a term
abbrev pub before_term : Role → Spec → Phrase
before_term Left y = Sofar (In Rules) y
before_term (Right l) y = Sofar (In Rules) y then term l then token Arrow
before_term (CondLeft l r cs) y = before_condition l r cs y
before_term (CondRight l r cs x e) y = before_condition l r cs y then term x then token (comparison e)
before_term InEval y = Sofar (In Eval) y
