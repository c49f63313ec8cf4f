-- Replies one after the other.
use Rattle.std.proofs.Common.{◌≡◌, ℕ, ◌+◌, List, [], ◌∷◌, ◌++◌, Option, Some, None, IfSome}
use Rattle.std.proofs.Common.{inl, inr, refl, sym, ap, subst, ◌∙◌, append-nil, length, arith}
use Rattle.std.specs.Prelude.{MatchOption}
use Rattle.std.proofs.lemmas.List.{length-append}
use Rattle.std.specs.Io.KnownBytes.{Appends, Keeps}
use Rattle.rx_text.specs.Written.{AppendsFront}
use Rattle.rx_text.proofs.AppendingLemmas.{appends_both, appends_none, appends_same, front_after}
use Rattle.rec_sorts.specs.Numbering.{Pairwise}
use Rattle.rec_serve.specs.Conversation.{joined, requests}
use Rattle.rec_serve.specs.Inner.Reading.{IsRead, Splits}
use Rattle.rec_serve.specs.declared.request.Request.{Request}
use Rattle.rec_serve.specs.Replies.{BreaksOffBy, ConversesBy, IsPart, answered_before}
use Rattle.rec_serve.specs.Inner.Steps.{EndsStep, Replies, StopsReply, StopsStep, stopped_after}
use Rattle.rec_serve.specs.declared.ending.ServeFault.{ServeFault}
use Rattle.rec_serve.specs.declared.ending.ServeFault.TheVariants as serve
use Rattle.rec_serve.proofs.AnswerLemmas.{joined-append, pairwise_both}
use Rattle.rec_serve.proofs.KeptLemmas.{splits_both}

module _ (Reply : List ℕ → List ℕ → Type 0) where
  -- so many requests were replied to
  pub record Replied (old left was now : Option (List ℕ)) (count : ℕ) : Type 0 where
    pub done : List (List ℕ)
    pub replies : List (List ℕ)
    pub split : Splits old left done
    pub each : Pairwise Reply done replies
    pub few : count ≡ length done
    pub written : Appends was now (joined replies)

  -- none
  pub replied_none : (old left was : Option (List ℕ)) → Splits old left [] → Replied old left was was 0
  replied_none old left was h = record { done = []; replies = []; split = h; each = tt; few = refl; written = appends_same was }

  -- one more
  pub replied_more : (old mid left was between now : Option (List ℕ)) (count : ℕ) → Replied old mid was between count
      → Replies Reply mid left between now → Replied old left was now (count + 1)
  replied_more old mid left was between now count h k =
      let size = length-append h.done (k.line ∷ []) in
      let one : joined (h.replies ++ k.text ∷ []) ≡ joined h.replies ++ k.text =
      joined-append h.replies (k.text ∷ []) ∙ ap (λ z. joined h.replies ++ z) (append-nil k.text) in
      let few = h.few in
      record {
        done = h.done ++ k.line ∷ [];
        replies = h.replies ++ k.text ∷ [];
        split = splits_both old mid left h.done (k.line ∷ []) h.split k.split;
        each = pairwise_both Reply h.done (k.line ∷ []) h.replies (k.text ∷ []) h.each (k.is, tt);
        few = omega (arith, few, size);
        written = subst (Appends was now) (sym one) (appends_both was between now (joined h.replies) k.text h.written k.written);
      }

  -- all
  pub converses : (old left remaining was between now : Option (List ℕ)) (count : ℕ) → Replied old left was between count
      → EndsStep left remaining between now → IfSome old (λ bytes. ConversesBy Reply bytes was now)
  converses None left remaining was between now count h e = tt
  converses (Some bytes) None remaining was between now count h e = absurd (h.split)
  converses (Some bytes) (Some rest) remaining was between now count h e =
      let all : requests bytes ≡ h.done = h.split ∙ ap (λ z. h.done ++ z) e.over ∙ append-nil h.done in
      let same : joined h.replies ++ [] ≡ joined h.replies = append-nil (joined h.replies) in
      record {
        replies = h.replies;
        each = subst (λ rs. Pairwise Reply rs h.replies) (sym all) h.each;
        written = subst (Appends was now) same (appends_both was between now (joined h.replies) [] h.written (appends_none between now e.kept));
      }

  nothing_begun : (fault : ServeFault) (left : List (List ℕ)) → IsPart Reply fault left []
  nothing_begun serve.Memory left = refl
  nothing_begun (serve.Read a) left = refl
  nothing_begun (serve.Write a) [] = refl
  nothing_begun (serve.Write a) (r ∷ rs) = inl refl

  -- nothing was read
  pub breaks_at_once : (known was : Option (List ℕ)) (fault : ServeFault) → answered_before fault ≡ 0
      → IfSome known (λ bytes. BreaksOffBy Reply bytes fault was was)
  breaks_at_once None was fault a = tt
  breaks_at_once (Some bytes) was fault a = record {
    done = [];
    left = requests bytes;
    split = refl;
    replies = [];
    each = tt;
    count = a;
    part = [];
    begun = nothing_begun fault (requests bytes);
    written = appends_same was;
  }

  -- the next request was read, and its reply written
  pub replies_one : (o : Option Request) (q : Request) (old left was mid now : Option (List ℕ)) → o ≡ Some q → (P : Type 0)
      → MatchOption o P (λ r. (line : List ℕ) × IsRead r line × Splits old left (line ∷ []))
      → Keeps was mid → ((line : List ℕ) → IsRead q line → (text : List ℕ) × Reply line text × Appends mid now text)
      → Replies Reply old left was now
  replies_one o q old left was mid now e P h k f =
      let got : (line : List ℕ) × IsRead q line × Splits old left (line ∷ []) =
      subst (λ x. MatchOption x P (λ r. (line : List ℕ) × IsRead r line × Splits old left (line ∷ []))) e h in
      let reply = f got.0 got.1 in
      record { line = got.0; text = reply.0; split = got.2; is = reply.1; written = appends_both was mid now [] reply.0 (appends_none was mid k) reply.2 }

  -- or a front of it
  pub replies_front : (o : Option Request) (q : Request) (old left was mid now : Option (List ℕ)) → o ≡ Some q → (P : Type 0)
      → MatchOption o P (λ r. (line : List ℕ) × IsRead r line × Splits old left (line ∷ []))
      → Keeps was mid → ((line : List ℕ) → IsRead q line → (text : List ℕ) × Reply line text × AppendsFront text mid now)
      → StopsReply Reply old was now
  replies_front o q old left was mid now e P h k f =
      let got : (line : List ℕ) × IsRead q line × Splits old left (line ∷ []) =
      subst (λ x. MatchOption x P (λ r. (line : List ℕ) × IsRead r line × Splits old left (line ∷ []))) e h in
      let reply = f got.0 got.1 in
      record {
        left = left;
        line = got.0;
        text = reply.0;
        split = got.2;
        is = reply.1;
        written =
            front_after was mid now [] reply.0 (appends_none was mid k) reply.2;
      }

  -- a fault between replies
  pub breaks_between : (old left was between now : Option (List ℕ)) (count : ℕ) (fault : ServeFault) → answered_before fault ≡ count
      → Replied old left was between count → Keeps between now → IfSome old (λ bytes. BreaksOffBy Reply bytes fault was now)
  breaks_between None left was between now count fault a h k = tt
  breaks_between (Some bytes) None was between now count fault a h k = absurd (h.split)
  breaks_between (Some bytes) (Some rest) was between now count fault a h k = record {
    done = h.done;
    left = requests rest;
    split = h.split;
    replies = h.replies;
    each = h.each;
    count = a ∙ h.few;
    part = [];
    begun = nothing_begun fault (requests rest);
    written = appends_both was between now (joined h.replies) [] h.written (appends_none between now k);
  }

  -- a fault within a reply
  breaks_within : (old left was between now : Option (List ℕ)) (count : ℕ) → Replied old left was between count
      → StopsReply Reply left between now → IfSome old (λ bytes. BreaksOffBy Reply bytes (serve.Write count) was now)
  breaks_within None left was between now count h s = tt
  breaks_within (Some bytes) None was between now count h s = absurd (h.split)
  breaks_within (Some bytes) (Some rest) was between now count h s = by s.left s.split
    where
      by : (left : Option (List ℕ)) → Splits (Some rest) left (s.line ∷ []) → BreaksOffBy Reply bytes (serve.Write count) was now
      by None k = absurd k
      by (Some later) k = record {
        done = h.done;
        left = s.line ∷ requests later;
        split = h.split ∙ ap (λ z. h.done ++ z) k;
        replies = h.replies;
        each = h.each;
        count = h.few;
        part = s.written.0;
        begun = inr (s.text, s.is, s.written.2);
        written = appends_both was between now (joined h.replies) s.written.0 h.written s.written.1;
      }

  pub breaks_off : (old left was between now : Option (List ℕ)) (count : ℕ) (f : ServeFault) (fault : ServeFault) → fault ≡ stopped_after f count
      → Replied old left was between count → StopsStep Reply f left between now
      → IfSome old (λ bytes. BreaksOffBy Reply bytes fault was now)
  breaks_off old left was between now count f fault e h s = subst (λ x. IfSome old (λ bytes. BreaksOffBy Reply bytes x was now)) (sym e) (by f s)
    where
      by : (f : ServeFault) → StopsStep Reply f left between now
          → IfSome old (λ bytes. BreaksOffBy Reply bytes (stopped_after f count) was now)
      by serve.Memory s = absurd s
      by (serve.Read before) s = breaks_between old left was between now count (serve.Read count) refl h s
      by (serve.Write before) (inl k) = breaks_between old left was between now count (serve.Write count) refl h k
      by (serve.Write before) (inr k) = breaks_within old left was between now count h k

-- ---- what follows from each reply

module _ (Q R : List ℕ → List ℕ → Type 0) (weaker : (r t : List ℕ) → Q r t → R r t) where
  pub replies_weaker : (old left was now : Option (List ℕ)) → Replies Q old left was now → Replies R old left was now
  replies_weaker old left was now h =
      record { line = h.line; text = h.text; split = h.split; is = weaker h.line h.text h.is; written = h.written }

  pub stops_weaker : (f : ServeFault) (old was now : Option (List ℕ)) → StopsStep Q f old was now → StopsStep R f old was now
  stops_weaker serve.Memory old was now h = absurd h
  stops_weaker (serve.Read before) old was now h = h
  stops_weaker (serve.Write before) old was now (inl k) = inl k
  stops_weaker (serve.Write before) old was now (inr s) =
      inr (record { left = s.left; line = s.line; text = s.text; split = s.split; is = weaker s.line s.text s.is; written = s.written })
