-- The machine values of a `Loose` and of a `OnceBox`. Assumes `Logic`.
use Rattle.std.proofs.{Common.{arith, ℕ}, lemmas.Grind.common_steps}
use Rattle.rnxcmp_c.proofs.PointerVocabulary.{◌≡◌, List, [], ◌∷◌, refl, Ura, Val, vstruct, vcons, vnil, Logic, Item}
use Rattle.rnxcmp_c.proofs.PointerVocabulary.{Goal, Step, step, ‵, ◌$◌, fjoin, fpack, feq_i, Valss, RawPtr, nothing}
use Rattle.rnxcmp_c.proofs.PointerVocabulary.{within, shape, dnil, vptr, fst∗, sem, move, drop, fsplit, fpick, feq_l}
use Rattle.rnxcmp_c.proofs.PointerVocabulary.{RattleType, block_ptr, in_a_block, layout, Al, handle_tells, Good}
use Rattle.rnxcmp_c.proofs.PointerVocabulary.{box_owns}
use mathlib.Core.Bool.{true, ◌&&◌}
use lib.Dec.{T}
use mir.{Syntax.{impl, tnil}, Val.{has_ty, WT}}
use types.Kit.{Seq}
use denote.Param.Laws.{Laws}
use Rattle.core.specs.declared.alloc.Allocator.{Ghosts}
use Rattle.rnxcmp_c.specs.contracts.loose.Loose as loose

abbrev pub both : Val → Val → Val
both v w = vstruct (vcons v (vcons w vnil))

module _ (R Z : RattleType) (L : Laws Z) (g : Ghosts Z.Denot) where
  abbrev pub Loose : RattleType
  Loose = loose.the_row R Z g

  abbrev pub al : Al
  al = record { row = Z; laws = L; g = g; d = impl [] tnil dnil; drops = impl [] tnil dnil }

  pub loose_good : (b o : ℕ) (h : Val) → Good (layout Z) h → T (has_ty (layout Z) h && true)
      × WT (both (vptr b o) h)
  loose_good b o h fits = grind arith

  module _ {M : Type 1} {𝓤 : Ura M} {𝓛 : Logic 𝓤} {K : Type 0} {Γ : List (Item 𝓤)} {G : Goal 𝓤 𝓛.H} where
    pub loose_out : K → (d : Loose.Denot) (vs : List Val)
        → ((b o : ℕ) (h : Val) → d.at ≡ block_ptr b o → vs ≡ both (vptr b o) h ∷ [] → Good (layout Z) h
        → Seq K 𝓛 (‵ (box_owns (g.dealloc_token d.alloc) R (block_ptr b o) d.value) ∷ ‵
        (Z.own_val d.alloc (h ∷ [])) ∷ Γ) G) → Seq K 𝓛 (‵ (Loose.own_val d vs) ∷ Γ) G
    loose_out t d vs k =
        fsplit t $ fpick t (λ vss. fsplit t $ feq_l t
        (λ ev. fsplit t $ feq_l t (λ ep. fsplit t $ handle_tells al t d.alloc vss.1.0
        (λ h ea fits. move t (1 ∷ []) $ drop t $ move t (1 ∷ []) $ in_a_block t d.at
        (λ p. box_owns (g.dealloc_token d.alloc) R p d.value) (fst∗ 𝓤 _ (sem 𝓛 (g.dealloc_token d.alloc _ _)))
        (λ b o e. k b o h e (grind (arith, common_steps)) fits)))))

    pub loose_in : K → (b o : ℕ) (h : Val) (a : Z.Denot) (x : R.Denot)
        → Step K 𝓛 (‵ (Loose.own_val (record { at = block_ptr b o; alloc = a; value = x })
        (both (vptr b o) h ∷ [])) ∷ Γ) G (‵ (box_owns (g.dealloc_token a) R (block_ptr b o) x)
        ∷ ‵ (Z.own_val a (h ∷ [])) ∷ Γ) G
    loose_in t b o h a x = step (λ s. let v : Val = both (vptr b o) h in
        nothing t $ move t (2 ∷ 0 ∷ []) $ fjoin t $ feq_i t _ _ _ refl $ fjoin t $ feq_i t _ _ _ refl $ fjoin
        t $ fpack t (Valss (RawPtr ∷ Z ∷ [])) (within (shape (loose.the_type R Z g)) (block_ptr b o, (a, tt))
        _) (vptr b o ∷ [], (h ∷ [], tt)) $ fjoin t $ s)
