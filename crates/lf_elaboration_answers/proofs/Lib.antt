mod Worked
mod Realized
mod Scopes
mod Settled
mod Forms
mod Items
