-- The machine value of a `ReaderBox`. Assumes `Logic`.
use Rattle.rnxcmp_c.proofs.PointerVocabulary.{List, [], ◌∷◌, refl, Ura, Val, vstruct, vcons, vnil, Logic, Item, Goal}
use Rattle.rnxcmp_c.proofs.PointerVocabulary.{Step, step, ‵, ◌$◌, fjoin, fpack, feq_i, Valss, RawPtr, Ptr, ptr_val}
use Rattle.rnxcmp_c.proofs.PointerVocabulary.{nothing, within, shape, Reader, reader_box_owns}
use Rattle.rnxcmp_c.specs.contracts.reader_box.ReaderBox as place

abbrev pub word : Ptr → Val
word p = vstruct (vcons (ptr_val p) vnil)

module _ {M : Type 1} {𝓤 : Ura M} {𝓛 : Logic 𝓤} {K : Type 0} {Γ : List (Item 𝓤)} {G : Goal 𝓤 𝓛.H} where
  pub place_in : K → (p : Ptr) (held : List Reader)
      → Step K 𝓛 (‵ ((place.the_row).own_val (record { at = p; held = held }) (word p ∷ [])) ∷ Γ) G
      (‵ (reader_box_owns p held) ∷ Γ) G
  place_in t p held = step (λ s. nothing t $ feq_i t _ _ _ refl $ fjoin t $ feq_i t _ _ _ refl $ fjoin t $
      fpack t (Valss (RawPtr ∷ [])) (within (shape place.the_type) (p, tt) (word p ∷ [])) (ptr_val p ∷ [], tt)
      $ fjoin t $ s)
