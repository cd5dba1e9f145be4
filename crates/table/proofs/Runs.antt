-- A list of calls made one after the other.
use Rattle.std.proofs.Common.{◌≡◌, ℕ, ◌+◌, ◌<◌, ◌≤◌, min, List, [], ◌∷◌, ◌++◌, length, get_or, take, set, Some, None, Option, Result, sym, refl, ap, ◌∙◌, subst, inl, inr, arith}
use Rattle.std.proofs.lemmas.Bool.{cases_lt}
use Rattle.std.proofs.lemmas.List.{take_more, take_more_set}
use Rattle.blocks.specs.Limits.{Limits}
use Rattle.stores.specs.Meaning.{Meaning, Bounded}
use Rattle.table.specs.declared.faults.TableFault.{TableFault}
use Rattle.table.specs.declared.calls.Call.{Call}
use Rattle.table.specs.declared.calls.Call.TheVariants.{Settle}
use Rattle.table.specs.declared.calls.Answer.{Answer}
use Rattle.table.specs.declared.calls.Answer.TheVariants.{Done}
use Rattle.table.specs.declared.calls.Entry.{Entry}
use Rattle.table.specs.Levels.{size}
use Rattle.table.specs.Evening.{EvenSides}
use Rattle.table.specs.Calls.{Model, model_of, refusal, Accepted, Promised}
use Rattle.table.specs.Lists.{Held, held, Step, Run, done, call}
use Rattle.table.proofs.Refusing.{long}

-- no yard has more than 512 nodes, so that more working bytes make no difference
small : (m : Meaning) → Bounded m → size m ≤ 512
small m b = omega (arith, b.few_buses, b.few_posts)

same_refusal : (m : Meaning) (room bytes count : ℕ) (c : Call) → Bounded m → count ≡ min bytes 512 → refusal (model_of m room) count c ≡ refusal (model_of m room) bytes c
same_refusal m room bytes count c b e = elim (cases_lt bytes 512) [
  | inl h ↦ let k : count ≡ bytes = omega arith in ap (λ n. refusal (model_of m room) n c) k
  | inr h ↦ let s = small m b in long m room count c (omega arith) ∙ sym (long m room bytes c (omega arith))
]

-- a refusal, or none
module _ {P : Type 0} (o : Option TableFault) (none : o ≡ None → P) (some : (f : TableFault) → o ≡ Some f → P) where
  either : (x : Option TableFault) → o ≡ x → P
  either None e = none e
  either (Some f) e = some f e

  by_refusal : P
  by_refusal = either o refl

-- what one call promised is one step, from even sides
pub step_made : (L : Limits) (m n : Meaning) (room room' count : ℕ) (asked made : Entry) (r : Result Answer TableFault)
    → Bounded m → count ≡ min asked.bytes 512 → EvenSides m L
    → Promised (λ a. a) L count asked.call m n room room' r
    → made.call ≡ asked.call → made.bytes ≡ asked.bytes → made.answer ≡ Some r
    → Step L (model_of m room) (held m room) asked made (model_of n room') (held n room')
step_made L m n room room' count asked made r bounded e even p sc sb w =
    let same = same_refusal m room asked.bytes count asked.call bounded e in
    record {
      same_call = sc;
      same_bytes = sb;
      result = r;
      written = w;
      model = record {
        refused = λ f h. let x = p.refused f (same ∙ h) in (x.fault, λ i. model_of (x.meaning i) (x.room_same i));
        accepted = λ h. let x = p.accepted (same ∙ h) in (x.model, (x.answer, x.answered, x.right));
      };
      holds = refl;
      even = by_refusal (refusal (model_of m room) count asked.call) (λ h. (p.accepted h).even) (λ f h. subst (λ z. EvenSides z L) (sym (p.refused f h).meaning) even);
      ranks = λ h. (p.accepted (same ∙ h)).ranks;
      sides = λ h. (p.accepted (same ∙ h)).sides even;
      untouched = λ f h. let x = p.refused f (same ∙ h) in λ i. held (x.meaning i) (x.room_same i);
    }

-- under equal limits
module _ {L K : Limits} (e : L ≡ K) where
  pub step_under : {M N : Model} {s t : Held} {c d : Entry} → Step L M s c d N t → Step K M s c d N t
  step_under {M = M} {N = N} {s = s} {t = t} {c = c} {d = d} k = subst (λ l. Step l M s c d N t) e k

module _ (L : Limits) where
  run_last : {M N O : Model} {s t u : Held} {cs ds : List Entry} {c d : Entry} → Run L M s cs ds N t → Step L N t c d O u → Run L M s (cs ++ c ∷ []) (ds ++ d ∷ []) O u
  run_last done h = call h done
  run_last (call k r) h = call k (run_last r h)

  pub run_more : {M N O : Model} {s t u : Held} (asked made : List Entry) (i : ℕ) (e d : Entry) → length made ≡ length asked → i < length asked → get_or made i e ≡ get_or asked i e
      → Run L M s (take i asked) (take i made) N t → Step L N t (get_or made i e) d O u → Run L M s (take (i + 1) asked) (take (i + 1) (set made i d)) O u
  run_more asked made i e d len h q r k =
      let a : take (i + 1) asked ≡ take i asked ++ get_or made i e ∷ [] = take_more asked i e h ∙ ap (λ x. take i asked ++ x ∷ []) (sym q) in
      let b : take (i + 1) (set made i d) ≡ take i made ++ d ∷ [] = take_more_set made i d (omega arith) in
      rw (a, b) (run_last r k)

-- settling over 512 working bytes is never refused
pub settles : (L : Limits) (m k : Meaning) (room room₁ : ℕ) (r : Result (Unit {0}) TableFault) → Bounded m → Promised (λ _. Done) L 512 Settle m k room room₁ r
    → Accepted (λ _. Done) L Settle m k room room₁ r
settles L m k room room₁ r b p = p.accepted (long m room 512 Settle (small m b))
