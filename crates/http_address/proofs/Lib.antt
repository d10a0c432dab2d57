mod Passwords
