-- what this crate alone cites
mod CursorLemmas
mod FollowLemmas
mod TenantLemmas
