-- The commands of version 1, their body texts, and which of them it accepted, over the states of today.
use Rattle.std.specs.Prelude.{ℕ, ◌==◌, ◌&&◌, ◌||◌, Bool, true, false, not, List, [], ◌∷◌, Option, Some, None, is_some, is_none, if◌then◌else◌, length, codes}
use Rattle.std.specs.List.{fold, join_with_byte}
use Rattle.ob_base.specs.declared.stop.Refusal.{Refusal}
use Rattle.ob_base.specs.declared.stop.Refusal.TheVariants.{UnknownName, NameTaken, Full}
use Rattle.ob_net.specs.Network.{Network, node_of, device_of, node_refusal}
use Rattle.ob_sheet.specs.declared.Entry.{Entry}
use Rattle.ob_command.specs.Commands.{normal_text, words}
use Rattle.ob_command.specs.Devices.{is_plain}
use Rattle.ob_command.specs.declared.command.Command.{Command}
use Rattle.ob_command.specs.declared.command.Command.TheVariants.{Bus, Section, Device, Life}
use Rattle.ob_state.specs.State.{BookState}
use Rattle.ob_state.specs.Refusals.{refusals, first, if_full}
use Rattle.ob_state.specs.Next.{next}
use Rattle.ob_book.specs.Acts.{ActState, Referenced, number_of, take_on}

-- of a device only its ends and its normal position were told, and no life could be set: a plain one stands for it
abbrev pub is_old : Command → Bool
is_old (Device d) = is_plain d
is_old (Life device life) = false
is_old command = true

-- the words of its body text: a device's up to its normal position
abbrev pub old_words : Command → List (List ℕ)
old_words (Device d) = codes "device" ∷ d.name ∷ d.ends.a ∷ d.ends.b ∷ normal_text d.normal ∷ []
old_words command = words command

-- the words, joined by one space
abbrev pub old_body_text : Command → List ℕ
old_body_text command = join_with_byte 32 (old_words command)

-- a device is added
abbrev pub is_device : Command → Bool
is_device (Device d) = true
is_device command = false

-- the command adds a part to the network
abbrev pub is_part : Command → Bool
is_part (Bus name) = true
is_part (Section name feeder) = true
is_part (Device d) = true
is_part command = false

-- the network took no more parts once the sheet held an entry, kept or withdrawn
abbrev pub is_sealed : List Entry → Bool
is_sealed entries = not (length entries == 0)

-- it is a command of version 1, and no part of a sealed network
abbrev pub fits_old : List Entry → Command → Bool
fits_old entries command = is_old command && not (is_part command && is_sealed entries)

-- why no device with the name could be added between the named nodes
abbrev pub old_device_refusal : Network → List ℕ → List ℕ → List ℕ → Option Refusal
old_device_refusal net name a b =
    if is_none (node_of net a) || is_none (node_of net b) then Some UnknownName else
    if is_some (device_of net name) then Some NameTaken else
    if length net.devices == 2048 then Some (Full 2048) else None

-- nothing that a command of its kind was refused for stood against it
abbrev pub old_passes : BookState → Command → Bool
old_passes b (Bus name) = not (is_sealed b.entries) && is_none (node_refusal b.network name)
old_passes b (Section name feeder) = not (is_sealed b.entries) && is_none (node_refusal b.network name)
old_passes b (Device d) = not (is_sealed b.entries) && is_none (old_device_refusal b.network d.name d.ends.a d.ends.b)
old_passes b command = is_none (first (refusals b command))

-- version 1 accepted the command
abbrev pub old_accepts : BookState → Command → Bool
old_accepts b command = is_old command && old_passes b command && is_none (if_full b)

-- the state after commands, each of which version 1 accepted in its turn; None where it didn't accept one
abbrev pub old_next_all : BookState → List Command → Option BookState
old_next_all b [] = Some b
old_next_all b (command ∷ commands) = if old_accepts b command then old_next_all (next b command) commands else None

-- the reference is new, and version 1 accepted the command
abbrev pub old_is_accepted : ActState → Referenced → Bool
old_is_accepted b a = is_none (number_of b a.reference) && old_accepts b.book a.command

-- the state of version 1 after a command under a reference
abbrev pub old_act : ActState → Referenced → ActState
old_act b a = if old_is_accepted b a then take_on b a else b

-- the state of version 1 after a list of commands under references
abbrev pub old_acts : ActState → List Referenced → ActState
old_acts b list = fold old_act b list
