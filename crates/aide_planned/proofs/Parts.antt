-- What the proofs about `Refusing` share. Assumes `Logic`.
--     Owner, inner_at, plan_at       the row of `Refusing`, and where its two fields lie
--     Both, parts                    a `&Refusing` is a `&` to the inner allocator beside one to the plan
--     Asks, at_asks, asks, asked     `Plan::refuses` at a call: its contract, what it is handed, and what a caller has
use Rattle.std.proofs.Common.{◌≡◌, ℕ, ◌+◌, Bool, List, [], ◌∷◌, refl, ap}
use seplogic.Ra.Ura.{Ura}
use mir.Val.{Val, vbool, vptr}
use base.Logic.{SProp, ent, sep, id⊢}
use base.Fml.{Lft, Share, ftrue, fsep, flft}
use prog.Memory.{Memory, size, align, up}
use prog.Routine.{Routine}
use types.Logic.{Logic, sem}
use contract.Monad.{Fun}
use types.Kit.{Item, mean, ‵, raw, ◌⊛◌, some, later, given, ◌$◌, ◌∵◌, !, qed, done, move, keep, use1, split, join}
use types.Kit.{fsplit, fjoin, feq_i, feq_l, pick, await, updating, show, check, now as at_once}
use denote.Builtin.{bool}
use denote.Memory.{hidden_shr}
use denote.Opens.{unhide}
use denote.Param.{param}
use denote.RattleType.{RattleType}
use denote.Steps.{nothing, only}
use denote.Triple.Spec.{triple_of}
use denote.Triple.Statement.{Contract}
use Rattle.std.proofs.alloc.Calls.{Al, α, seen}
use Rattle.aide_planned.specs.contracts.refusing.Refusing as owner
use Rattle.aide_planned.specs.contracts.refusing.Plan as plan
use Rattle.aide_planned.specs.contracts.refusing.Plan.refuses as asking

module _ (Z : Al) where
  abbrev pub Owner : RattleType
  Owner = owner.the_row (param 0 Z.row)

  abbrev pub inner_at : ℕ → ℕ
  inner_at o = o + up (align (α Z)) 0

  abbrev pub plan_at : ℕ → ℕ
  plan_at o = o + up 8 (up (align (α Z)) 0 + size (α Z))

  module _ {M : Type 1} {𝓤 : Ura M} (𝓛 : Logic 𝓤) (κ : Lft) (x : Owner.Denot) (b o : ℕ) where
    abbrev pub Both : Item 𝓤
    Both = ‵ (seen Z κ (b, inner_at o) x.inner) ⊛ ‵ (hidden_shr plan.the_row κ x.plan b (plan_at o))

    pub parts : ent 𝓤 (sem 𝓛 (hidden_shr Owner κ x b o)) (mean 𝓛 Both)
    parts =
        qed 𝓛 (‵ (hidden_shr Owner κ x b o) ∷ []) ∵ unhide ! $ fsplit ! $ fsplit ! $ move ! (1 ∷ []) $ fsplit ! $ move ! (2 ∷ 0 ∷ []) $
        use1 𝓛 (‵ (seen Z κ (b, inner_at o) x.inner)) (id⊢ 𝓤 _) $ keep ! (0 ∷ 1 ∷ []) $ join ! $ done !

module _ {M : Type 1} {𝓤 : Ura M} (𝓛 : Logic 𝓤) (at_mem : Memory → SProp 𝓤) (run : Routine → Fun 𝓤) where
  open 𝓛 use {H, A}

  abbrev pub Asks : Contract 𝓤
  Asks = triple_of 𝓛 asking.signature (asking.spec 𝓛 at_mem run)

  module _ (κ : Lft) (q : Share) (x : plan.the_row.Denot) (b o : ℕ) where
    abbrev pub at_asks : Asks.Ghost
    at_asks = (((κ, tt), (q, tt), tt, (record { ref_ptr = (b, o); now = x }, tt), (vptr b o ∷ [], tt)), tt)

    pub asks : ent 𝓤 (sep 𝓤 (sem 𝓛 (hidden_shr plan.the_row κ x b o)) (A.lft κ q)) (Asks.pre at_asks)
    asks =
        qed 𝓛 (‵ (hidden_shr plan.the_row κ x b o) ∷ ‵ (flft κ q) ∷ []) ∵ feq_i ! (List Val) (vptr b o ∷ []) (vptr b o ∷ []) refl $
        fjoin ! $
        nothing ! $ move ! (1 ∷ []) $ fjoin ! $ nothing ! $ move ! (2 ∷ []) $ join ! $ join ! $ nothing ! $ move ! (1 ∷ []) $ join ! $
        done !

    abbrev pub Said : Val → Bool → Item 𝓤
    Said v refused = given (v ≡ vbool refused) (‵ (flft κ q))

    pub asked : (v : Val) → ent 𝓤 (Asks.post at_asks v) (mean 𝓛 (later (some (Said v))))
    asked v =
        qed 𝓛 (raw (Asks.post at_asks v) ∷ []) ∵ updating ! $
        use1 𝓛 (later (some (λ (r : Bool). ((‵ (flft κ q) ⊛ ‵ ftrue) ⊛ ‵ (bool.own_val r (v ∷ [])))
        ⊛ some (λ (ws : Unit {0} × Unit {0}). ‵ (fsep ftrue ftrue) ⊛ ‵ ftrue)))) (id⊢ 𝓤 _) $
        await ! tt $ pick ! (λ r. split ! $ split ! $ move ! (1 ∷ []) $ feq_l ! (λ e. split ! $
        at_once ! $ show ! (λ (s : Bool). mean 𝓛 (Said v s)) r $ check ! (ap only e) $ keep ! (0 ∷ []) $ done !))
