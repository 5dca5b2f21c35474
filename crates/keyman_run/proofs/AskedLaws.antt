-- Calls that were made in order, one after the other.
use Rattle.std.proofs.Common.{◌≡◌, Bool, List, [], ◌∷◌, ◌++◌, map, refl, sym, ◌∙◌, ap, append_assoc, append-nil}
use Rattle.std.proofs.lemmas.List.{map-append}
use Rattle.kmn_outside.specs.declared.traits.Call.{Call}
use Rattle.keyman_run.specs.Asked.{Ask, answered, failed, AsksAll, AsksFirst, AsksUntil}

module _ (wanted more : List Ask) (before middle after : List Call) where
  -- if a first part of some accesses was made, it is a first part of these and more accesses
  pub first_front : AsksFirst wanted before after → AsksFirst (wanted ++ more) before after
  first_front h = record { front = h.front; rest = h.rest ++ more; parts = ap (λ asks. asks ++ more) h.parts ∙ append_assoc h.front h.rest more; made = h.made }

  pub until_front : (is_write : Bool) → AsksUntil is_write wanted before after → AsksUntil is_write (wanted ++ more) before after
  until_front is_write h = record {
    front = h.front;
    name = h.name;
    rest = h.rest ++ more;
    parts = ap (λ asks. asks ++ more) h.parts ∙ append_assoc h.front ((h.name, is_write) ∷ h.rest) more;
    made = h.made;
  }

  pub joined : (made : List Call) (front : List Ask) → AsksAll wanted before middle → after ≡ middle ++ (map answered front ++ made) → after ≡ before ++ (map answered (wanted ++ front) ++ made)
  joined made front all is =
      is ∙ ap (λ calls. calls ++ (map answered front ++ made)) all
      ∙ append_assoc before (map answered wanted) (map answered front ++ made)
      ∙ ap (λ calls. before ++ calls) (sym (append_assoc (map answered wanted) (map answered front) made))
      ∙ ap (λ calls. before ++ (calls ++ made)) (sym (map-append answered wanted front))

  -- if some accesses were all made and then a first part of more accesses, a first part of both lists was made
  pub first_behind : AsksAll wanted before middle → AsksFirst more middle after → AsksFirst (wanted ++ more) before after
  first_behind all h = record {
    front = wanted ++ h.front;
    rest = h.rest;
    parts = ap (λ asks. wanted ++ asks) h.parts ∙ sym (append_assoc wanted h.front h.rest);
    made = joined [] h.front all (h.made ∙ ap (λ calls. middle ++ calls) (sym (append-nil (map answered h.front))))
        ∙ ap (λ calls. before ++ calls) (append-nil (map answered (wanted ++ h.front)));
  }

  pub until_behind : (is_write : Bool) → AsksAll wanted before middle → AsksUntil is_write more middle after → AsksUntil is_write (wanted ++ more) before after
  until_behind is_write all h = record {
    front = wanted ++ h.front;
    name = h.name;
    rest = h.rest;
    parts = ap (λ asks. wanted ++ asks) h.parts ∙ sym (append_assoc wanted h.front ((h.name, is_write) ∷ h.rest));
    made = joined (failed (h.name, is_write) ∷ []) h.front all h.made;
  }

  pub all_behind : AsksAll wanted before middle → AsksAll more middle after → AsksAll (wanted ++ more) before after
  all_behind all all_more =
      all_more ∙ ap (λ calls. calls ++ map answered more) all ∙ append_assoc before (map answered wanted) (map answered more)
      ∙ ap (λ calls. before ++ calls) (sym (map-append answered wanted more))

-- if no call was made, the empty first part of any accesses was made
pub first_none : (wanted : List Ask) (before after : List Call) → after ≡ before → AsksFirst wanted before after
first_none wanted before after is = record { front = []; rest = wanted; parts = refl; made = is ∙ sym (append-nil before) }

-- if all accesses were made, a first part of them was made
pub first_all : (wanted : List Ask) (before after : List Call) → AsksAll wanted before after → AsksFirst wanted before after
first_all wanted before after all = record { front = wanted; rest = []; parts = sym (append-nil wanted); made = all }
