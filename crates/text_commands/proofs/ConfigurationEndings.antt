-- How a subcommand ends that refuses a configuration, and what it writes.
use Rattle.std.proofs.Common.{◌≡◌, ◌∙◌, ◌++◌, true, ℕ, List, ap, inl, inr, refl, subst, sym}
use Rattle.std.specs.Prelude.{◌⊎◌, ◌≢◌, Option, None, Some}
use Rattle.std.specs.Io.KnownBytes.{Appends, Consumes, IsAtEnd}
use Rattle.std.proofs.lemmas.List.{append-nil}
use Rattle.admin_text.specs.Configurations.{IsConfiguration}
use Rattle.admin_text.specs.Refusals.{IsFaultless, IsRefusalOf, names_fault}
use Rattle.admin_text.specs.Statements.{statements_of}
use Rattle.admin_text.specs.Warnings.{AreWarningsOf}
use Rattle.admin_text.specs.declared.configurations.Configuration.{Configuration}
use Rattle.admin_text.specs.declared.refusals.Refusal.{Refusal}
use Rattle.admin_text.specs.declared.warnings.Warnings.{Warnings}
use Rattle.text_commands.specs.Configuring.{EndsConfiguration, IsInput, IsSaid, IsWarned}
use Rattle.text_commands.specs.declared.endings.Ending.{Ending}
use Rattle.text_commands.specs.declared.endings.Ending.TheVariants as endings

-- an input that is read to its end
pub input_read : (before after : Option (List ℕ)) (bytes : List ℕ) → Consumes before after bytes → IsAtEnd after → IsInput before bytes
input_read None after bytes read end = tt
input_read (Some all) None bytes read end = absurd read
input_read (Some all) (Some rest) bytes read end = sym (read ∙ ap (λ more. bytes ++ more) end ∙ append-nil bytes)

done_differs : endings.Done ≡ endings.Device → ⊥
done_differs same = cc

differ : endings.Configuration ≡ endings.Device → ⊥
differ same = cc

-- what in it is surely meant otherwise
pub input_warned : (bytes : Option (List ℕ)) (text : List ℕ) (warnings : Warnings) → IsInput bytes text → IsFaultless (statements_of text)
    → AreWarningsOf (statements_of text) warnings → IsWarned bytes warnings.said.items
input_warned bytes text warnings input is warned = (text, warnings, input, is, warned, refl)

-- its lines are written, or the device failed
pub refusal_said : (bytes before after : Option (List ℕ)) (ending : Ending) (text : List ℕ) (refusal : Refusal) → IsInput bytes text
    → IsRefusalOf (statements_of text) refusal → names_fault refusal ≡ true → (ending ≡ endings.Configuration) ⊎ (ending ≡ endings.Device)
    → (ending ≢ endings.Device → Appends before after refusal.said.items) → IsSaid bytes before after ending
refusal_said bytes before after ending text refusal input is faulty (inl refused) said =
    subst (IsSaid bytes before after) (sym refused)
    (refusal.said.items, (text, refusal, input, is, faulty, refl), said (λ device. differ (sym refused ∙ device)))
refusal_said bytes before after ending text refusal input is faulty (inr device) said = subst (IsSaid bytes before after) (sym device) tt

-- its warnings are written, or the device failed
pub warnings_said : (bytes before after : Option (List ℕ)) (ending : Ending) (text : List ℕ) (warnings : Warnings) → IsInput bytes text
    → IsFaultless (statements_of text) → AreWarningsOf (statements_of text) warnings → (ending ≡ endings.Done) ⊎ (ending ≡ endings.Device)
    → (ending ≢ endings.Device → Appends before after warnings.said.items) → IsSaid bytes before after ending
warnings_said bytes before after ending text warnings input is warned (inl done) said =
    subst (IsSaid bytes before after) (sym done)
    (warnings.said.items, (text, warnings, input, is, warned, refl), said (λ device. done_differs (sym done ∙ device)))
warnings_said bytes before after ending text warnings input is warned (inr device) said = subst (IsSaid bytes before after) (sym device) tt

-- a configuration is there, or the device failed
pub configuration_ends : (ending : Ending) (c : Configuration) → IsConfiguration c → (ending ≡ endings.Done) ⊎ (ending ≡ endings.Device)
    → EndsConfiguration ending
configuration_ends ending c is (inl done) = subst EndsConfiguration (sym done) (c, is)
configuration_ends ending c is (inr device) = subst EndsConfiguration (sym device) tt
